-- `copies` meets its contract: what the depth after it lacks is the same as a machine word, and else the top is put above itself.
use Rattle.std.proofs.Common.{ap, ap₂, arith, false, mod-eq_of_lt, sym, ◌%◌, ◌+◌, ◌^◌, ◌∙◌, ◌≡◌, ℕ}
use Rattle.number.specs.Number.{number}
use Rattle.slots.specs.Reach.{lacking, put_at, number_at}
use Rattle.slots.specs.ReachLaws.{has, copied_nowhere, copied_at}
use Rattle.moving.proofs.Wrapped.{wrapped}
use Rattle.moving.proofs.literal.copies.Goals as goal
use Rattle.moving.proofs.literal.copies.Given.{Over as Given}
use Rattle.moving.proofs.literal.copies.Goals.{After-lacks}

-- what it lacks, of the depth that does not wrap
same : (g : Given) (c : After-lacks g) → (let a = c.args in c.lacks.result ≡ lacking a.stack.now (a.depth + 1) 2)
same g c = c.lacks.ensures ∙ wrapped c.args.stack.now c.args.depth (omega arith)

pub returns-then-lacks : goal.returns-then-lacks
returns-then-lacks g c =
    let l = sym c.if-lacks.true ∙ same g (goal.at.returns-then-lacks g c).After-lacks in
    (l, sym (copied_nowhere _ _ (sym l)))

pub returns : goal.returns
returns g c =
    let s = c.args.stack.now in
    let d = c.args.depth in
    let l = sym (same g (goal.at.returns g c).After-lacks) ∙ c.if-lacks.false in
    let h = has s (d + 1) 2 l in
    let e : (d + 1) % 2 ^ 64 ≡ d + 1 = mod-eq_of_lt (omega (arith, h.0.short, h.0.deep)) in (
      sym l,
      c.put_at.ensures
          ∙ ap (put_at s ((d + 1) % 2 ^ 64) 0) (ap₂ number c.b1_at-b1.ensures c.word_at-word.ensures)
          ∙ ap (λ (n : ℕ). put_at s n 0 (number_at s n 1)) e
          ∙ sym (copied_at s d l),
    )
