-- Sign bytes and low halves as they are added: the second number's, negated for a difference, to the first's. That the code's taking away comes to the same.
use Rattle.std.specs.Prelude.{◌≡◌, ℕ, ◌+◌, ◌-◌, ◌%◌, ◌^◌, ◌<◌, Bool, true, false, cond, ◌==◌, nat_lt, refl}
use Rattle.std.proofs.Common.{sym, ap₂, arith, lt-ltb, le-ltb, ltb-true, ltb-false}
use Rattle.number.specs.Number.{complement_of}
use Rattle.addition.specs.declared.short.Halves.{Halves}
use Rattle.addition.specs.ShortRouteLaws.{carry_of}

abbrev pub halves_of : ℕ → ℕ → Halves
halves_of b h = record { byte = b; low = h }

-- the second number's sign byte and low half as they are added
abbrev pub second_halves : Bool → ℕ → ℕ → Halves
second_halves less b h = cond less (cond (h == 0) (halves_of 0 h) (halves_of (255 - b) (complement_of h))) (halves_of b h)

-- added to those of the first, as the listing adds them
abbrev pub added_halves : ℕ → ℕ → Halves → Halves
added_halves b g s = halves_of (((b + s.byte) % 256 + carry_of ((g + s.low) % 2 ^ 16) g) % 256) ((g + s.low) % 2 ^ 16)

-- The code takes away: nothing, or with a borrow where the negated half has no carry.
pub less_none : (b g : ℕ) → b < 256 → g < 2 ^ 16 → halves_of b g ≡ added_halves b g (halves_of 0 0)
less_none b g l m = sym (simp (le-ltb ((g + 0) % 2 ^ 16) g (omega arith)) (ap₂ halves_of {x = ((b + 0) % 256 + 0) % 256} (omega arith) (omega arith)))

pub less_some : (b c g h : ℕ) → c < 256 → g < 2 ^ 16 → 0 < h → h < 2 ^ 16 → (i k w : ℕ) → (i + c) % 256 ≡ b → (k + carry_of g h) % 256 ≡ i → (w + h) % 2 ^ 16 ≡ g
    → k < 256 → w < 2 ^ 16 → halves_of k w ≡ added_halves b g (halves_of (255 - c) (complement_of h))
less_some b c g h l m p q i k w e f d n o = go (nat_lt g h) refl f
  where
    v : ℕ
    v = (g + complement_of h) % 2 ^ 16

    go : (t : Bool) → nat_lt g h ≡ t → (k + cond t 1 0) % 256 ≡ i → halves_of k w ≡ added_halves b g (halves_of (255 - c) (complement_of h))
    go true j f = let less = ltb-true g h j in sym (simp (le-ltb v g (omega arith)) (ap₂ halves_of {x = ((b + (255 - c)) % 256 + 0) % 256} (omega arith) (omega arith)))
    go false j f = let more = ltb-false g h j in sym (simp (lt-ltb v g (omega arith)) (ap₂ halves_of {x = ((b + (255 - c)) % 256 + 1) % 256} (omega arith) (omega arith)))
