-- The laws of a number as the arithmetic takes it: whether it is malformed, and the parts of its re-stacked form.
use Rattle.std.specs.Prelude.{◌≡◌, ℕ, ◌+◌, ◌-◌, ◌*◌, ◌/◌, ◌%◌, ◌^◌, ◌<◌, ◌≤◌, Option, ◌⊎◌, ◌≢◌, bit_xor, refl}
use Rattle.std.proofs.Common.{sym, ◌∙◌, ap, subst, inl, inr, mod-eq_of_lt, eq-zero-or-pos, arith, eq-eqb, ne_eqb}
use Rattle.std.specs.Int.Bits.{xor_add_and, xor_zero_r}
use Rattle.std.proofs.lemmas.Nat.{and_mask}
use Rattle.std.specs.Int.Count.{count_leading_zeros}
use Rattle.number.specs.declared.Number.{Number}
use Rattle.number.specs.declared.operand.Operand.{Operand}
use Rattle.number.specs.Number.{number, low, short_magnitude, complement_of, full_of}
use Rattle.number.specs.NumberLaws.{Bytes}
use Rattle.number.specs.FormLaws.{malformed_full, malformed_short, malformed_negative}
use Rattle.number.specs.Restack.{restacked, full_of_short}
use Rattle.number.proofs.RestackLaws.{restack_full, restack_some}
use Rattle.number.specs.Operand.{Masked, Unpacked, Unpacks, operand}

-- what is not full goes by its word alone
pub unpacks_short : (x : Number) (u : Option Operand) → x.b1 ≡ 0 → Unpacks (number 0 x.word) u → Unpacks x u
unpacks_short x u h = subst (λ (b : ℕ). Unpacks (number b x.word) u) (sym h)

-- an exponent byte is its own remainder
pub packed_byte : (s e m : ℕ) → e < 256 → full_of s (e % 256) m ≡ full_of s e m
packed_byte s e m h = ap (λ (k : ℕ). full_of s k m) (mod-eq_of_lt h)

-- a full number is its own re-stacked form
pub full_operand : (x : Number) → Bytes x → (x.b1 ≢ 0) → Unpacked x (operand x.word x.word x.b1)
full_operand x b h =
    let same : x.word % 2 ^ 31 + 2 ^ 31 * (x.word / 2 ^ 31 % 2) ≡ x.word = omega arith in
    record { form = malformed_full x h; stands = ap (number x.b1) same ∙ sym (restack_full x h); byte = omega arith; none = λ e. absurd (h e) }

-- ---- a short number, by the mask that its b2 makes
-- with all bits of a mask set, a number is taken from the mask
xor_ones : (h k : ℕ) → h < 2 ^ k → bit_xor h (2 ^ k - 1) + h ≡ 2 ^ k - 1
xor_ones h k l =
    let a = xor_add_and h (2 ^ k - 1) in
    let b = and_mask h k ∙ mod-eq_of_lt l in
    omega arith

away_less : (h r : ℕ) → h < 2 ^ 16 → r < 2 ^ 32 → (r + 4294967295) % 2 ^ 32 ≡ bit_xor h 4294967295 → r % 2 ^ 16 ≡ complement_of h
away_less h r l g x =
    let o = xor_ones h 32 (omega arith) in
    let y : (r + h) % 2 ^ 32 ≡ 0 = omega arith in
    omega arith

away_plus : (h r : ℕ) → h < 2 ^ 16 → r < 2 ^ 32 → (r + 0) % 2 ^ 32 ≡ h → r % 2 ^ 16 ≡ h
away_plus h r l g x = omega arith

pub masked : (w b r : ℕ) → w < 2 ^ 32 → r < 2 ^ 32 → w / 2 ^ 24 ≡ b → (0 < b → b ≡ 255)
    → (r + b * 16843009) % 2 ^ 32 ≡ bit_xor (low (number 0 w)) (b * 16843009) → Masked w b r
masked w b r l g i n e = go (eq-zero-or-pos b)
  where
    h : ℕ
    h = low (number 0 w)

    At : ℕ → Type 0
    At k = (r + k * 16843009) % 2 ^ 32 ≡ bit_xor h (k * 16843009)

    top : ℕ → ℕ
    top k = k * 16843009 / 2 ^ 31

    go : (b ≡ 0) ⊎ (0 < b) → Masked w b r
    go (inl z) =
        let small : w < 2 ^ 24 = omega arith in
        let plus : w / 2 ^ 31 ≡ 0 = omega arith in
        record { formed = malformed_short _ refl small; away = simp (eq-eqb (w / 2 ^ 31) 0 plus) (away_plus h r (omega arith) g (subst At z e ∙ xor_zero_r h)); signs = ap top z ∙ sym plus }
    go (inr p) =
        let large : 255 * 2 ^ 24 ≤ w = omega (arith, n p) in
        let less : w / 2 ^ 31 ≡ 1 = omega arith in
        record { formed = malformed_negative _ refl large l; away = simp (ne_eqb (w / 2 ^ 31) 0 (omega arith)) (away_less h r (omega arith) g (subst At (n p) e)); signs = ap top (n p) ∙ sym less }

-- a short number that is away from zero
pub short_stands : (w v z : ℕ) → v ≡ short_magnitude (number 0 w) → (v ≢ 0) → z ≡ count_leading_zeros 32 v
    → full_of (w / 2 ^ 31) (160 - z) (v * 2 ^ z % 2 ^ 32) ≡ restacked (number 0 w)
unfolding full_of_short
short_stands w v z i n j =
    let m = v * 2 ^ z in
    let same : m % 2 ^ 32 % 2 ^ 31 + 2 ^ 31 * (w / 2 ^ 31 % 2) ≡ m % 2 ^ 31 + 2 ^ 31 * (w / 2 ^ 31 % 2) = omega arith in
    ap (number (160 - z)) same
    ∙ ap (λ (k : ℕ). full_of (w / 2 ^ 31) (160 - k) (v * 2 ^ k)) j
    ∙ ap (λ (k : ℕ). full_of (w / 2 ^ 31) (160 - count_leading_zeros 32 k) (k * 2 ^ count_leading_zeros 32 k)) i
    ∙ sym (restack_some (number 0 w) refl (λ e. n (i ∙ e)))
