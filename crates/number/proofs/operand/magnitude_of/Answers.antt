-- `magnitude_of` meets its contract: the mask makes the magnitude of any number that is not malformed.
use Rattle.std.proofs.Common.{ap, arith, bit_xor, refl, sym, ◌%◌, ◌*◌, ◌<◌, ◌^◌, ◌∙◌, ℕ}
use Rattle.std.proofs.lemmas.Nat.{xor_lt}
use Rattle.number.specs.Number.{number}
use Rattle.number.specs.FormLaws.{malformed_between}
use Rattle.number.proofs.OperandLaws.{masked}
use Rattle.number.proofs.operand.magnitude_of.Goals as goal

pub returns-then-b2-lt254 : goal.returns-then-b2-lt254
returns-then-b2-lt254 c = ((λ w i j. malformed_between (number 0 w) refl (omega arith) (omega arith)), tt)

pub returns : goal.returns
returns c =
    let b = c.args.byte % 256 in
    let less : bit_xor c.args.half (b * 16843009) < 2 ^ 32 = xor_lt 32 c.args.half (b * 16843009) (omega arith) (omega arith) in (
      (λ w i j.
          let m = masked w b _ (omega arith) (omega arith) i (λ p. omega (arith, c.if-b2-lt254.false)) (omega (arith, less) ∙ ap (λ (h : ℕ). bit_xor h (b * 16843009)) (sym j)) in
          record { form = m.formed; away = m.away; signs = m.signs }),
      omega arith,
    )
