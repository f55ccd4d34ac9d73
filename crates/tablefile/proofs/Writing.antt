-- Bytes written one part after the other, and how many bytes a pair has.
use Rattle.std.proofs.Common.{◌≡◌, ℕ, zero, suc, ◌+◌, ◌*◌, ◌/◌, ◌%◌, ◌^◌, ◌<◌, ◌≤◌, Bool, ltb, List, [], ◌∷◌, ◌++◌, length, get_or, take, drop, Some, None, count_by, sym, refl, ap, ◌∙◌, subst, ap₂, inl, inr, mul-zero, mul-suc, add-one, arith, length-append, take_all}
use lib.Seq.{paste}
use Rattle.std.specs.List.{range_with_len, flat_map, zip}
use Rattle.std.proofs.lemmas.List.Edits.{paste_none, paste-paste, paste_all}
use Rattle.std.proofs.lemmas.List.{get_or-map, get_or_default, length-map, append_assoc, flat_map_more, length_push}
use Rattle.std.proofs.lemmas.List.Sums.{count_by_more_yes, count_by_more_no}
use Rattle.std.proofs.lemmas.List.FromFn.{length-range_with_len, get_or-range_with_len}
use Rattle.std.proofs.lemmas.Slice.Zip.{length-zip, get_or-zip}
use Rattle.std.proofs.lemmas.Bool.{cases_Bool, lt-ltb, le-ltb, eq-eqb}
use Rattle.counting.specs.Ledger.{Ledger, pixels_at, counted_levels}
use Rattle.counting.specs.Outputs.{over}
use Rattle.tables.specs.Table.{Table}
use Rattle.tables.specs.Bins.{bounds_in, representatives_in}
use Rattle.tables.specs.declared.table.Bin.{Bin}
use Rattle.tablefile.specs.Bytes.{head_bytes, counted_below, counted_of, level_bytes, levels_bytes, bin_bytes, bins_bytes, bytes_of}
use Rattle.tablefile.specs.Numbers.{word, long}
use Rattle.tablefile.specs.Parts.{Puts}
use Rattle.tablefile.specs.declared.writer.Writer.{Writer}
use Rattle.tablefile.specs.Promises.{write_row}
use Rattle.tablefile.proofs.Kept.{counting_more, kept_yes, kept_no, kept_grows}

-- one part after another
pub put_put : (writer mid then : Writer) (a b : List ℕ) → writer.place + length a ≤ length writer.out.now → Puts writer a mid → Puts mid b then → Puts writer (a ++ b) then
put_put writer mid then a b room first second =
    let joint : length (a ++ b) ≡ length a + length b = length-append a b in
    let e = first.2 in
    let f = second.2 in (
      second.0 ∙ first.0,
      second.1 ∙ first.1,
      omega arith,
      second.3 ∙ ap₂ (λ (xs : List ℕ) (p : ℕ). paste xs p b (length b)) first.3 e
          ∙ paste-paste writer.out.now writer.place a b (length a) (length b) refl refl (omega arith)
          ∙ ap (λ (n : ℕ). paste writer.out.now writer.place (a ++ b) n) (sym joint),
    )

pub put_none : (writer : Writer) → Puts writer [] writer
put_none writer = (refl, refl, omega arith, paste_none writer.out.now writer.place [])

-- the same bytes, put another way
pub put_same : (writer then : Writer) (a b : List ℕ) → a ≡ b → Puts writer a then → Puts writer b then
put_same writer then a b e put = subst (λ (bytes : List ℕ). Puts writer bytes then) e put

-- the bytes of a number that fits
pub put_word : (writer then : Writer) (n : ℕ) (bytes : List ℕ) → n < 2 ^ 16 → bytes ≡ n / 256 % 256 ∷ n % 256 ∷ [] → Puts writer bytes then → Puts writer (word n) then
put_word writer then n bytes fits are put = put_same writer then bytes (word n) (are ∙ ap (λ (b : ℕ). b ∷ n % 256 ∷ []) (omega arith)) put

pub put_long : (writer then : Writer) (n : ℕ) (bytes : List ℕ) → n < 2 ^ 32 → bytes ≡ n / 16777216 % 256 ∷ n / 65536 % 256 ∷ n / 256 % 256 ∷ n % 256 ∷ [] → Puts writer bytes then → Puts writer (long n) then
put_long writer then n bytes fits are put = put_same writer then bytes (long n) (are ∙ ap (λ (b : ℕ). b ∷ n / 65536 % 256 ∷ n / 256 % 256 ∷ n % 256 ∷ []) (omega arith)) put

-- what is written from the start on
pub put_over : (writer then : Writer) (bytes : List ℕ) → writer.place ≡ 0 → Puts writer bytes then → then.out.now ≡ over bytes writer.out.now
put_over writer then bytes start put =
    let out = writer.out.now in
    let same : 0 + length bytes ≡ length bytes = omega arith in
    put.3 ∙ ap (λ (p : ℕ). paste out p bytes (length bytes)) start ∙ paste_all out 0 bytes (length bytes) refl ∙ ap (λ (n : ℕ). bytes ++ drop n out) same

joined_long : (f : ℕ → List ℕ) (size : ℕ) → ((x : ℕ) → length (f x) ≡ size) → (xs : List ℕ) → length (flat_map f xs) ≡ size * length xs
joined_long f size each [] = sym (mul-zero size)
joined_long f size each (x ∷ xs) =
    let both = length-append (f x) (flat_map f xs) in
    let one = each x in
    let rest = joined_long f size each xs in
    omega (arith, mul-suc size (length xs))

-- the entries of the levels below one level more
module _ (g : Ledger) (writer : Writer) (room : writer.place + 6 * length (counted_of g) ≤ length writer.out.now) where
  abbrev entries_below : ℕ → List ℕ
  entries_below level = flat_map (level_bytes g) (counted_below g level)

  abbrev passes : ℕ → Bool
  passes l = ltb 0 (pixels_at g l)

  module _ (mid : Writer) (level : ℕ) (put : Puts writer (entries_below level) mid) (within : level < g.levels) where
    so_far : length (entries_below level) ≡ 6 * length (counted_below g level)
    so_far = joined_long (level_bytes g) 6 (λ x. refl) (counted_below g level)

    fits : writer.place + length (entries_below level) ≤ length writer.out.now
    fits = let long = so_far in let rest = kept_grows passes level g.levels (omega arith) in omega arith

    pub level_room : 0 < pixels_at g level → mid.place + 6 ≤ length mid.out.now
    level_room some =
        let grown = ap length (kept_yes passes level (lt-ltb _ _ some)) ∙ length_push (counted_below g level) level in
        let rest = kept_grows passes (level + 1) g.levels (omega arith) in
        let long = so_far in
        omega (arith, put.1, put.2)

    pub level_put : (then : Writer) → 0 < pixels_at g level → Puts mid (level_bytes g level) then → Puts writer (entries_below (level + 1)) then
    level_put then some more =
        put_same writer then _ _ (flat_map_more (level_bytes g) [] (counted_below g level) level ∙ ap (flat_map (level_bytes g)) (sym (kept_yes passes level (lt-ltb _ _ some))))
        (put_put writer mid then (entries_below level) (level_bytes g level) fits put more)

    pub level_skipped : pixels_at g level ≤ 0 → Puts writer (entries_below (level + 1)) mid
    level_skipped none = put_same writer mid _ _ (ap (flat_map (level_bytes g)) (sym (kept_no passes level (le-ltb _ _ none)))) put

-- the entries of one bin more, where the table's bins are those of a list
module _ (t : Table) (writer : Writer) (room : writer.place + 4 * length t.bounds ≤ length writer.out.now)
    (bins : List Bin) (bounds : bounds_in bins ≡ t.bounds) (greys : representatives_in bins ≡ t.representatives) where
  abbrev entries_upto : ℕ → List ℕ
  entries_upto i = flat_map (bin_bytes t) (range_with_len 0 i)

  module _ (mid : Writer) (i : ℕ) (put : Puts writer (entries_upto i) mid) (within : i < length bins) where
    bins_so_far : (length (entries_upto i) ≡ 4 * i) × (i < length t.bounds)
    bins_so_far =
        let many = length-range_with_len 0 i in
        let long = joined_long (bin_bytes t) 4 (λ x. refl) (range_with_len 0 i) in
        let as_many = sym (ap length bounds) ∙ length-map bins (λ (bin : Bin). bin.bound) in
        (omega arith, omega arith)

    pub bin_room : mid.place + 4 ≤ length mid.out.now
    bin_room = omega (arith, bins_so_far, put.1, put.2)

    pub bin_put : (then : Writer) (d : Bin) → Puts mid (word (get_or bins i d).bound ++ word (get_or bins i d).representative) then → Puts writer (entries_upto (i + 1)) then
    bin_put then d more =
        let bound = sym (get_or-map (λ (bin : Bin). bin.bound) bins i d 0 within) ∙ ap (λ (xs : List ℕ). get_or xs i 0) bounds in
        let grey = sym (get_or-map (λ (bin : Bin). bin.representative) bins i d 0 within) ∙ ap (λ (xs : List ℕ). get_or xs i 0) greys in
        let entry = put_same mid then _ (bin_bytes t i) (ap₂ (λ (b r : ℕ). word b ++ word r) bound grey) more in
        put_same writer then _ _ (flat_map_more (bin_bytes t) [] (range_with_len 0 i) i ∙ ap (flat_map (bin_bytes t)) (sym (counting_more i)))
        (put_put writer mid then (entries_upto i) (bin_bytes t i) (omega (arith, bins_so_far)) put entry)

-- a level beside its pixels, as the levels are gone over
pub level_turn : (levels i : ℕ) (at : List ℕ) (x : ℕ × ℕ) → length at ≡ levels → (i < length (zip (range_with_len 0 levels) at)) × (x ≡ get_or (zip (range_with_len 0 levels) at) i x) →
    (i < levels) × (x.0 ≡ i) × (x.1 ≡ get_or at i 0)
level_turn levels i at x wide turn =
    let many = length-range_with_len 0 levels in
    let both = length-zip (range_with_len 0 levels) at in
    let within : i < levels = omega (arith, turn.0) in
    let pair = turn.1 ∙ get_or-zip (range_with_len 0 levels) at i x (omega arith) (omega arith) in
    let level = ap (λ (p : ℕ × ℕ). p.0) pair ∙ get_or-range_with_len 0 levels i x.0 within in
    let pixels = ap (λ (p : ℕ × ℕ). p.1) pair ∙ get_or_default at i x.1 0 (omega arith) in
    (within, omega arith, pixels)

-- how many levels have pixels, counted on the levels and on their pixels
counted_upto : (g : Ledger) (k : ℕ) → k ≤ length g.at → count_by (ltb 0) (take k g.at) ≡ length (counted_below g k)
counted_upto g zero h = refl
counted_upto g (suc k) h =
    let before = counted_upto g k (omega arith) in
    let P : ℕ → Type 0 = λ n. count_by (ltb 0) (take n g.at) ≡ length (counted_below g n) in
    subst P (add-one k) (elim (cases_Bool (ltb 0 (pixels_at g k))) [
      | inl e ↦ (
          let more = count_by_more_yes (ltb 0) g.at k 0 (omega arith) e in
          let grown = ap length (kept_yes (λ l. ltb 0 (pixels_at g l)) k e) ∙ length_push (counted_below g k) k in omega arith)
      | inr e ↦ (
          let more = count_by_more_no (ltb 0) g.at k 0 (omega arith) e in
          let same = ap length (kept_no (λ l. ltb 0 (pixels_at g l)) k e) in omega arith)
    ])

pub counted_number : (g : Ledger) → length g.at ≡ g.levels → counted_levels g ≡ length (counted_of g)
counted_number g long =
    let all : take g.levels g.at ≡ g.at = take_all g.levels g.at (omega arith) in
    sym (ap (count_by (ltb 0)) all) ∙ counted_upto g g.levels (omega arith)

-- the entries of the levels are 6c bytes
pub entries_long : (g : Ledger) → length (flat_map (level_bytes g) (counted_of g)) ≡ 6 * length (counted_of g)
entries_long g = joined_long (level_bytes g) 6 (λ x. refl) (counted_of g)

-- the bytes of a pair are 7 + 6c + 4B
pub bytes_long : (g : Ledger) (t : Table) → length (bytes_of g t) ≡ 7 + 6 * length (counted_of g) + 4 * length t.bounds
unfolding bytes_of
bytes_long g t =
    let levels = entries_long g in
    let bins = joined_long (bin_bytes t) 4 (λ x. refl) (range_with_len 0 (length t.bounds)) in
    let many = length-range_with_len 0 (length t.bounds) in
    let both = length-append (levels_bytes g) (bins_bytes t) in omega arith

-- the five parts one after the other are the bytes of the pair
pub whole_put : (g : Ledger) (t : Table) (w0 w1 w2 w3 w4 w5 : Writer) → w0.place + length (bytes_of g t) ≤ length w0.out.now →
    Puts w0 (head_bytes g.levels) w1 → Puts w1 (word (length (counted_of g))) w2 → Puts w2 (flat_map (level_bytes g) (counted_of g)) w3 →
    Puts w3 (word (length t.bounds)) w4 → Puts w4 (flat_map (bin_bytes t) (range_with_len 0 (length t.bounds))) w5 → Puts w0 (bytes_of g t) w5
unfolding bytes_of
whole_put g t w0 w1 w2 w3 w4 w5 room a b d e f =
    let levels = flat_map (level_bytes g) (counted_of g) in
    let bins = flat_map (bin_bytes t) (range_with_len 0 (length t.bounds)) in
    let front : List ℕ → List ℕ = λ xs. head_bytes g.levels ++ (word (length (counted_of g)) ++ xs) in
    let total = bytes_long g t in
    let levels_long = entries_long g in
    let ends_long = length-append levels (word (length t.bounds)) in
    let ab = put_put w0 w1 w2 (head_bytes g.levels) (word (length (counted_of g))) (omega arith) a b in
    let abd = put_put w0 w2 w3 (front []) levels (omega arith) ab d in
    let abde = put_put w0 w3 w4 (front levels) (word (length t.bounds)) (omega arith) abd e in
    let all = put_put w0 w4 w5 (front (levels ++ word (length t.bounds))) bins (omega arith) abde f in
    put_same w0 w5 _ _ (ap front (append_assoc levels (word (length t.bounds)) bins)) all

-- the row that fits: none, or an output too short
pub write_enough : (g : Ledger) (t : Table) (room : ℕ) → g.levels ≡ t.levels → length (bytes_of g t) ≤ room → write_row g t room ≡ None
write_enough g t room same fits = let a = eq-eqb g.levels t.levels same in let b = le-ltb room (length (bytes_of g t)) fits in rw (a, b) refl

pub write_short : (g : Ledger) (t : Table) (room needed : ℕ) → g.levels ≡ t.levels → needed ≡ length (bytes_of g t) → room < needed → write_row g t room ≡ Some (10, needed ∷ [])
write_short g t room needed same is short =
    let a = eq-eqb g.levels t.levels same in let b = lt-ltb room (length (bytes_of g t)) (omega arith) in rw (a, b) (ap (λ (n : ℕ). Some (10, n ∷ [])) (sym is))
