-- What the code finds on top after the shipped edition's literal, and mends where that was done: the two ways out.
use Rattle.std.specs.Prelude.{ℕ, ◌≡◌, ◌==◌, Bool, List}
use Rattle.std.proofs.Common.{sym, ◌∙◌, ap, true, false, eqb-true}
use borrow.Author.Tests.{eqb-false}
use Rattle.edition.specs.declared.Edition.{Edition}
use Rattle.edition.specs.declared.Edition.TheVariants.{Shipped}
use Rattle.literals.specs.Operate.{outcome, operate_of}
use Rattle.odd.specs.Mending.{mended_top}
use Rattle.odd.specs.EitherLaws.{Follows}

module _ (s : List ℕ) (d l q d' : ℕ) (s' : List ℕ) (e : operate_of Shipped s d l ≡ (outcome q d', s')) (ed : Edition) (f : Follows s d l q d' s' e ed) where
  pub done : {b : Bool} {u : List ℕ} → true ≡ b → b ≡ (q == 0) → u ≡ mended_top ed s' d' → operate_of ed s d l ≡ (outcome q d', u)
  done {u = u} h i m =
      let z = eqb-true _ _ (sym (h ∙ i)) in
      f.1 z ∙ ap (λ (v : List ℕ). (outcome 0 d', v)) (sym m) ∙ ap (λ (p : ℕ). (outcome p d', u)) (sym z)

  pub refused : {b : Bool} → false ≡ b → b ≡ (q == 0) → operate_of ed s d l ≡ (outcome q d', s')
  refused h i = f.0 (eqb-false _ _ (sym (h ∙ i)))
