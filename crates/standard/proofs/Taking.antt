-- Bytes that are taken into a buffer, part by part.
use Rattle.std.proofs.Common.{◌≡◌, ℕ, ◌+◌, ◌≤◌, List, ◌++◌, length, take, ap, ◌∙◌, arith, length-take-le}
use Rattle.std.proofs.lemmas.List.{take-append-le}
use Rattle.std.proofs.Math.Seq.{take-append-add}
use Rattle.std.proofs.KnownBytes.{Consumes-trans}
use Rattle.std.specs.Io.KnownBytes.{Consumes}
use Rattle.std.specs.declared.option.Option.{Option}
use borrow.Rule.Slice.PartMut.{put_mid, post_of}

-- of a buffer that held some bytes the part after them is written, and n more bytes count
taken_more : (held k n : ℕ) (buffer part : List ℕ) → held ≤ length buffer → n ≤ length part
    → take (held + n) (put_mid held k buffer part) ≡ take held buffer ++ take n part
taken_more held k n buffer part h m =
    let e = length-take-le held buffer h in
    let count : held + n ≡ length (take held buffer) + n = omega (arith, e) in
    ap (λ i. take i (put_mid held k buffer part)) count
    ∙ take-append-add (take held buffer) (part ++ post_of held k buffer) n
    ∙ ap (λ l. take held buffer ++ l) (take-append-le n part (post_of held k buffer) m)

-- where each of both was what came next, both together are
pub next_taken : (a b c : Option (List ℕ)) (held k n : ℕ) (buffer part : List ℕ) → Consumes a b (take held buffer) → Consumes b c (take n part)
    → held ≤ length buffer → n ≤ length part → Consumes a c (take (held + n) (put_mid held k buffer part))
next_taken a b c held k n buffer part p q h m = rw (taken_more held k n buffer part h m) (Consumes-trans a b c _ _ p q)
