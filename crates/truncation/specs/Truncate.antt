-- Document 01, "Truncation and int (002)", its first paragraph. Which edition it is decides alone whether there is a test for -65,536.
use Rattle.std.specs.Prelude.{ℕ, ◌*◌, ◌-◌, ◌^◌, ◌/◌, Bool, false, cond, ◌&&◌, ltb, eqb}
use Rattle.edition.specs.declared.Edition.{Edition}
use Rattle.edition.specs.declared.Edition.TheVariants.{Shipped, Mended}
use Rattle.number.specs.declared.Number.{Number}
use Rattle.number.specs.declared.form.Form.{Form}
use Rattle.number.specs.declared.form.Form.TheVariants.{Full, Short, Odd, Malformed}
use Rattle.number.specs.Number.{b2, b3, b4, bytes, zeros, sign, mantissa, short_of, form_of}

-- "145: if b2 is 80, b3 is 0 and b4 is below 128". The listing means it as a test for -65,536. A3: "truncation at exponent byte 145 clears bits like its
-- neighbours".
unfoldable pub taken65536 : Edition → Number → Bool
taken65536 Shipped x = eqb x.b1 145 && (eqb (b2 x) 128 && (eqb (b3 x) 0 && ltb (b4 x) 128))
taken65536 Mended x = false

-- the lowest k bits cleared
abbrev pub cleared : ℕ → ℕ → ℕ
cleared k m = m / 2 ^ k * 2 ^ k

-- "Exponent byte up to 128: five zero bytes. 129 to 144: the short number of the whole part, towards zero, the sign kept. 145: [the case above]
-- 00 FF 00 00 00. Otherwise, 145 to 159: the lowest 160 - b1 mantissa bits are cleared", which are the word's lowest bits too. "160 and over:
-- unchanged."
unfoldable pub truncated_full : Edition → Number → Number
truncated_full ed x =
    cond (ltb x.b1 129) zeros
    (cond (ltb x.b1 145) (short_of (sign x) (mantissa x / 2 ^ (160 - x.b1)))
    (cond (taken65536 ed x) (bytes 0 255 0 0 0)
    (cond (ltb x.b1 160) (record { b1 = x.b1; word = cleared (160 - x.b1) x.word }) x)))

-- "Short and odd stay, b5 included." Malformed, which report 3 refuses before, stays too.
abbrev pub truncated_as : Edition → Form → Number → Number
truncated_as ed Full x = truncated_full ed x
truncated_as ed Short x = x
truncated_as ed Odd x = x
truncated_as ed Malformed x = x

unfoldable pub truncated : Edition → Number → Number
truncated ed x = truncated_as ed (form_of x) x
