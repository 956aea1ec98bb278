-- Laws of the lines of a recording's records.
use Rattle.std.specs.Prelude.{ℕ, zero, suc, ◌+◌, ◌*◌, ◌<◌, ◌≡◌, refl, List, [], ◌++◌, length, take, drop, get_or}
use Rattle.std.specs.Simd.{first_chunks}
use Rattle.std.proofs.Common.{sym, ◌∙◌, ap, arith, add-one, mul-suc, append_assoc, append-nil, drop-drop, length-take, get_or-take}
use Rattle.text.specs.Put.{Text, puts_of}
use Rattle.text.proofs.Puts.{puts_append}
use Rattle.recording.specs.Recording.{first, later, records}
use Rattle.printing.specs.Page.{record_line, record_lines}

-- the chunk at a place
chunk_at : (n k i : ℕ) (xs : List ℕ) → i < k → get_or (first_chunks n k xs) i [] ≡ take n (drop (n * i) xs)
chunk_at n zero i xs h = absurd (omega arith)
chunk_at n (suc k) zero xs h = let e : n * 0 ≡ 0 = omega arith in rw e refl
chunk_at n (suc k) (suc i) xs h =
    let e : n + n * i ≡ n * suc i = omega (arith, mul-suc n i) in
    chunk_at n k i (drop n xs) (omega arith) ∙ ap (take n) (drop-drop (n * i) n xs ∙ ap (λ (j : ℕ). drop j xs) e)

length_chunks : (n k : ℕ) (xs : List ℕ) → length (first_chunks n k xs) ≡ k
length_chunks n zero xs = refl
length_chunks n (suc k) xs = ap (λ (j : ℕ). suc j) (length_chunks n k (drop n xs))

lines_more : (n i : ℕ) (r : List ℕ) → record_lines (suc n) i r ≡ record_lines n i r ++ record_line (i + n) (first (drop (16 * n) r))
unfolding record_lines
lines_more zero i r = let e : i + 0 ≡ i = omega arith in rw e (append-nil (record_line i (first r)))
lines_more (suc n) i r =
    let number : i + 1 + n ≡ i + suc n = omega arith in
    let place : 16 + 16 * n ≡ 16 * suc n = omega arith in
    let last : record_line (i + 1 + n) (first (drop (16 * n) (later r))) ≡ record_line (i + suc n) (first (drop (16 * suc n) r)) =
    rw (drop-drop (16 * n) 16 r, place, number) refl in
    let rest = lines_more n (i + 1) (later r) ∙ ap (λ (xs : List ℕ). record_lines n (i + 1) (later r) ++ xs) last in
    ap (λ (xs : List ℕ). record_line i (first r) ++ xs) rest
    ∙ sym (append_assoc (record_line i (first r)) (record_lines n (i + 1) (later r)) (record_line (i + suc n) (first (drop (16 * suc n) r))))

pub lines_take : (t : Text) (r : List ℕ) (chunks : List (List ℕ)) (i n : ℕ) → chunks ≡ first_chunks 16 (records r) r → i < length (take n chunks)
    → puts_of t (record_lines (i + 1) 0 r) ≡ puts_of (puts_of t (record_lines i 0 r)) (record_line i (get_or (take n chunks) i []))
lines_take t r chunks i n e h =
    let within : i < records r = omega (arith, length-take n chunks, ap length e, length_chunks 16 (records r) r) in
    let here : get_or (take n chunks) i [] ≡ first (drop (16 * i) r) =
    get_or-take n chunks i [] (omega (arith, length-take n chunks)) ∙ ap (λ (xs : List (List ℕ)). get_or xs i []) e ∙ chunk_at 16 (records r) i r within in
    let number : 0 + i ≡ i = omega arith in
    rw (here, add-one, lines_more i 0 r, number) (puts_append t (record_lines i 0 r) (record_line i (first (drop (16 * i) r))))
