-- A push, a law a way out: what was found there, and the case of the definition that this is.
use Rattle.std.specs.Prelude.{◌≡◌, ℕ, zero, suc, ◌+◌, ◌-◌, ◌*◌, ◌%◌, ◌^◌, ◌<◌, ◌≤◌, Bool, true, false, cond, List, length, ◌≢◌, nat_lt, slice_index}
use Rattle.std.proofs.Math.Path.{refl}
use Rattle.std.proofs.Common.{sym, ◌∙◌, ap, arith}
use borrow.Author.Tests.{lt-ltb, le-ltb, eq-eqb, ne_eqb}
use Rattle.number.specs.Number.{malformed}
use Rattle.slots.specs.Outcome.{Outcome}
use Rattle.slots.specs.Slots.{number_in, bytes_of, put_slot}
use Rattle.slots.specs.SlotLaws.{bytes_of_slot, slot_five, five_of_lem}
use Rattle.slots.specs.Reports.{over_limits, no_room, not_a_number, push_report}
use Rattle.slots.specs.LimitLaws.{within, within_of}
use Rattle.slots.specs.Reach.{lacking, refusal_of, number_at, put_at}
use Rattle.slots.specs.ReachLaws.{has, enough, number_at_lem, put_there}
use Rattle.slots.specs.Push.{settled, push_of}
use Rattle.slots.specs.PushLaws.{Room}

-- whatever the report, a refusal leaves the stack and the depth
pub settled_refused : (r d : ℕ) (s : List ℕ) (d' : ℕ) (s₂ : List ℕ) (o : Outcome) (s' : List ℕ) → settled r d s d' s₂ ≡ (o, s') → (o.report ≢ 0)
    → (s' ≡ s) × (o.depth ≡ d)
unfolding settled
settled_refused zero d s d' s₂ o s' e h = absurd (h (sym (ap (λ (x : Outcome × List ℕ). x.0.report) e)))
settled_refused (suc k) d s d' s₂ o s' e h =
    (sym (ap (λ (x : Outcome × List ℕ). x.1) e), sym (ap (λ (x : Outcome × List ℕ). x.0.depth) e))

module _ (s : List ℕ) (d : ℕ) (p : List ℕ) where
  push_refused : {k : ℕ} → push_report s d p ≡ suc k → push_of s d p ≡ (record { report = suc k; depth = d }, s)
  unfolding push_of settled
  push_refused h = simp h

  pub push_1 : over_limits s d ≡ true → push_of s d p ≡ (record { report = 1; depth = d }, s)
  unfolding push_report
  push_1 h = push_refused (simp h)

  module _ (w : over_limits s d ≡ false) where
    pub push_4 : length s < 5 * (d + 1) → push_of s d p ≡ (record { report = 4; depth = d }, s)
    unfolding push_report no_room
    push_4 h = push_refused (simp (w, lt-ltb _ _ h))

    module _ (r : 5 * (d + 1) ≤ length s) where
      pub push_not_five : (length p ≢ 5) → push_of s d p ≡ (record { report = 3; depth = d }, s)
      unfolding push_report no_room not_a_number
      push_not_five h = push_refused (simp (w, le-ltb _ _ r, ne_eqb _ _ h))

      pub push_malformed : length p ≡ 5 → malformed (number_in p 0) ≡ true → push_of s d p ≡ (record { report = 3; depth = d }, s)
      unfolding push_report no_room not_a_number
      push_malformed f h = push_refused (simp (w, le-ltb _ _ r, eq-eqb _ _ f, h))

      pub pushed : length p ≡ 5 → malformed (number_in p 0) ≡ false → push_of s d p ≡ (record { report = 0; depth = d + 1 }, put_slot s d p)
      unfolding push_of settled push_report no_room not_a_number
      pushed f h = simp (w, le-ltb _ _ r, eq-eqb _ _ f, h)

-- The depth after a push is a machine word, which may have wrapped.
module _ (s : List ℕ) (d after : ℕ) (e : after ≡ (d + 1) % 2 ^ 64) where
  pub push_lacking : (p : List ℕ) → lacking s after 1 ≡ true → (q : ℕ) → q ≡ refusal_of s d 0 → push_of s d p ≡ (record { report = q; depth = d }, s)
  unfolding refusal_of
  push_lacking p a q i = go (over_limits s d) refl i
    where
      made : ℕ → Outcome × List ℕ
      made n = (record { report = n; depth = d }, s)

      go : (b : Bool) → over_limits s d ≡ b → q ≡ cond b 1 (cond (nat_lt d 0) 2 4) → push_of s d p ≡ (record { report = q; depth = d }, s)
      go true j k = push_1 s d p j ∙ ap made (sym k)
      go false j k =
          let w = within_of s d j in
          let over : ¬ (5 * (d + 1) ≤ length s) = λ f. absurd (let z : ◌≡◌ {A = ℕ} 0 1 = cc (a, enough s after 1 (record { short = w.short; deep = omega (arith, e, w.short, w.deep) }) (omega (arith, e, w.short, w.deep))) in omega arith) in
          push_4 s d p j (omega (arith, over)) ∙ ap made (sym (k ∙ simp (le-ltb d 0 (omega arith))))

  pub push_room : d < 2 ^ 64 → lacking s after 1 ≡ false → (Room s d after e)
  push_room l a =
      let h = has s after 1 a in
      let n : after ≡ d + 1 = omega (arith, e, h) in
      record {
        limits = within s d (record { short = h.0.short; deep = omega (arith, n, h.0.deep) });
        fits = omega (arith, n, h.0.deep);
        next = n;
        slot = omega (arith, n);
      }

-- the five bytes are the one number of a stack of their own
one : (p : List ℕ) → length p ≡ 5 → number_at p 1 0 ≡ number_in p 0
one p h = number_at_lem p 1 0 (enough p 1 1 (record { short = omega arith; deep = omega arith }) (omega arith))

pub alone : (p : List ℕ) → length p ≡ 5 → malformed (number_at p 1 0) ≡ malformed (number_in p 0)
alone p h = ap malformed (one p h)

-- whose bytes they are
pub alone_bytes : (p : List ℕ) → length p ≡ 5 → ((k : ℕ) → slice_index p k < 256) → bytes_of (number_at p 1 0) ≡ p
alone_bytes p h b = ap bytes_of (one p h) ∙ bytes_of_slot p 0 (omega arith) b ∙ slot_five p 0 (omega arith) ∙ five_of_lem p h

-- and put onto the stack as they are
pub put_alone : (s : List ℕ) (d : ℕ) (p : List ℕ) → lacking s d 1 ≡ false → length p ≡ 5 → ((k : ℕ) → slice_index p k < 256)
    → put_at s d 0 (number_at p 1 0) ≡ put_slot s (d - 1) p
put_alone s d p a h b = put_there s d 0 (number_at p 1 0) a ∙ ap (put_slot s (d - 1)) (alone_bytes p h b)
