-- `short_sum` meets its contract: each way out is a law of what the short route answers.
use Rattle.std.proofs.Common.{ap, ap₂, arith, subst, sym, ℕ, ◌%◌, ◌+◌, ◌/◌, ◌<◌, ◌^◌, ◌∙◌, ◌≡◌, ◌≤◌}
use Rattle.number.specs.Number.{number, low}
use Rattle.addition.specs.declared.short.Short.TheVariants.{Stored, Exact, Beyond}
use Rattle.addition.specs.declared.short.Halves.{Halves}
use Rattle.addition.specs.SecondHalves.{second_halves, added_halves}
use Rattle.addition.specs.SignBytes.{Says, seventeen_of, Formed}
use Rattle.addition.proofs.SignBytesLaws.{one_unformed, both_formed, answer_stored, answer_beyond, answer_exact}
use Rattle.addition.proofs.short.short_sum.Goals as goal
use Rattle.addition.proofs.short.short_sum.Goals.{After-total-sum, Else-forms-gt1, Else-sum-lt2}

-- one more than a sign byte, as it is tested
byte : (b w : ℕ) → w / 2 ^ 24 ≡ b → (b + 1) % 256 ≡ (w / 2 ^ 24 + 1) % 256
byte b w i = ap (λ (n : ℕ). (n + 1) % 256) (sym i)

formed : (c : Else-forms-gt1) (x y : ℕ) → (let a = c.args in x / 2 ^ 24 ≡ a.b → y / 2 ^ 24 ≡ a.c → Formed x y)
formed c x y i p =
    both_formed x y _ _ (omega arith) (omega arith) (byte _ x i) (byte _ y p) c.if-forms-gt1.false

-- what `total` made, by the words
summed : (c : After-total-sum) (x y : ℕ) → (let a = c.args in
    x / 2 ^ 24 ≡ a.b → low (number 0 x) ≡ a.first → y / 2 ^ 24 ≡ a.c → low (number 0 y) ≡ a.other
    → c.total-sum.result ≡ added_halves (x / 2 ^ 24) (low (number 0 x)) (second_halves a.less (y / 2 ^ 24) (low (number 0 y))))
summed c x y i j p q =
    let a = c.args in
    c.total-sum.ensures
    ∙ ap₂ (λ (b g : ℕ). added_halves b g (second_halves a.less a.c a.other)) (sym i) (sym j)
    ∙ ap₂ (λ (b g : ℕ). added_halves (x / 2 ^ 24) (low (number 0 x)) (second_halves a.less b g)) (sym p) (sym q)

-- a sum that is not short
large : (c : Else-sum-lt2) (x y : ℕ) → (let a = c.args in
    x / 2 ^ 24 ≡ a.b → low (number 0 x) ≡ a.first → y / 2 ^ 24 ≡ a.c → low (number 0 y) ≡ a.other
    → 2 ≤ ((added_halves (x / 2 ^ 24) (low (number 0 x)) (second_halves a.less (y / 2 ^ 24) (low (number 0 y)))).byte + 1) % 256)
large c x y i j p q =
    let more : 2 ≤ (c.total-sum.result.byte + 1) % 256 = omega (arith, c.if-sum-lt2.false) in
    subst (λ (h : Halves). 2 ≤ (h.byte + 1) % 256) (summed c.before.before x y i j p q) more

beyond : (c : Else-sum-lt2) (x y : ℕ) → (let a = c.args in
    x / 2 ^ 24 ≡ a.b → low (number 0 x) ≡ a.first → y / 2 ^ 24 ≡ a.c → low (number 0 y) ≡ a.other → Says a.less (number 0 x) (number 0 y) Beyond)
beyond c x y i j p q =
    answer_beyond c.args.less x y (omega arith) (omega arith) (formed c.before.before.before x y i p) (large c x y i j p q)

pub returns-then-forms-gt1 : goal.returns-then-forms-gt1
returns-then-forms-gt1 c x y i j p q =
    one_unformed x y _ _ (omega arith) (omega arith) (byte _ x i) (byte _ y p) c.if-forms-gt1.true _

pub returns-then-sum-lt2 : goal.returns-then-sum-lt2
returns-then-sum-lt2 c x y i j p q =
    let less = c.args.less in
    let same = summed c.before.before x y i j p q in
    let small : (c.total-sum.result.byte + 1) % 256 < 2 = omega (arith, c.if-sum-lt2.true) in
    subst (λ (h : Halves). Says less (number 0 x) (number 0 y) (Stored h.byte h.low)) (sym same)
    (answer_stored less x y (omega arith) (omega arith) (formed c.before.before.before x y i p) (subst (λ (h : Halves). (h.byte + 1) % 256 < 2) same small))

pub returns : goal.returns
returns c x y i j p q =
    let less = c.args.less in
    let same = summed c.before.before.before.before.before x y i j p q in
    subst (λ (w : ℕ). Says less (number 0 x) (number 0 y) (Exact w)) (sym (c.seventeen.ensures ∙ ap (λ (h : Halves). seventeen_of h.byte h.low) same))
    (answer_exact less x y (omega arith) (omega arith) (formed c.before.before.before.before.before.before x y i p) (large c.before.before.before x y i j p q) (omega (arith, c.if-first-eq0.false)) (omega (arith, c.if-other-eq0.false)))

pub returns-then-first-eq0 : goal.returns-then-first-eq0
returns-then-first-eq0 c = beyond c.before

pub returns-then-other-eq0 : goal.returns-then-other-eq0
returns-then-other-eq0 c = beyond c.before.before
