-- The ledger of a scan with one row more, and the rows that are cut off its list one by one.
use Rattle.std.proofs.Common.{◌≡◌, ℕ, zero, suc, ◌+◌, ◌-◌, ◌*◌, ◌<◌, ◌≤◌, min, List, [], ◌∷◌, ◌++◌, map, length, take, drop, nat_lt, sym, refl, ap, ◌∙◌, ap₂, inl, inr, add-mul, one-mul, arith}
use Rattle.std.specs.List.{range_with_len}
use Rattle.std.proofs.Math.Seq.{take-append_seam, drop-append_seam}
use Rattle.std.proofs.lemmas.Bool.{cases_lt, cases_Bool}
use Rattle.std.proofs.lemmas.List.{append-nil, length-append, take_all, length-drop, drop_all, drop-drop}
use Rattle.std.proofs.lemmas.List.FromFn.{map-range_with_len_more, fill_by_all}
use Rattle.counting.specs.Ledger.{Ledger, Asked, opened, counted, step, after_from, after, total_of, pixels_at, occurs}
use Rattle.counting.specs.Meaning.{ledger_of}
use Rattle.counting.specs.declared.histogram.Histogram.{Histogram}
use Rattle.counting.proofs.Ledgers.{sound_histogram}
use Rattle.ffi.specs.Scans.{row_of, scanned}

after_push : (g : Ledger) (run : List Asked) (a : Asked) → after_from g (run ++ a ∷ []) ≡ (step (after_from g run) a).0
after_push g [] a = refl
after_push g (x ∷ run) a = after_push (step g x).0 run a

pub scanned_more : (levels i width : ℕ) (scan row : List ℕ) (before then : Ledger) → row ≡ row_of width scan i → before ≡ scanned levels i width scan → then ≡ (step before (counted row)).0 →
    then ≡ scanned levels (i + 1) width scan
scanned_more levels i width scan row before then is so_far more =
    let f : ℕ → Asked = λ k. counted (row_of width scan k) in
    more ∙ ap₂ (λ (g : Ledger) (xs : List ℕ). (step g (counted xs)).0) so_far is ∙ sym (after_push (after (opened levels ∷ [])) (map f (range_with_len 0 i)) (f i))
    ∙ ap (after_from (after (opened levels ∷ []))) (sym (map-range_with_len_more f 0 i i (omega arith)))

-- a row of no pixels alters nothing
empty_row : (g : Ledger) → length g.at ≡ g.levels → g ≡ (step g (counted [])).0
empty_row g wide =
    elim (cases_Bool (nat_lt 4294967295 (total_of g + 0))) [
      | inl over ↦ rw over refl
      | inr within ↦ rw within (ap (λ (at : List ℕ). record { levels = g.levels; at = at }) (fill_by_all (λ l. pixels_at g l + occurs l []) g.at g.levels 0 wide (λ k h. omega arith)))
    ]

-- nor do any number of them
empty_more : (levels i n width : ℕ) (scan : List ℕ) (h : Histogram) → ledger_of h ≡ scanned levels i width scan → ((j : ℕ) → row_of width scan (i + j) ≡ []) →
    ledger_of h ≡ scanned levels (i + n) width scan
empty_more levels i zero width scan h so_far none =
    let no_more : i ≡ i + 0 = omega arith in
    so_far ∙ ap (λ (k : ℕ). scanned levels k width scan) no_more
empty_more levels i (suc n) width scan h so_far none =
    let one_more : i + n + 1 ≡ i + suc n = omega arith in
    scanned_more levels (i + n) width scan [] (ledger_of h) (ledger_of h) (sym (none n)) (empty_more levels i n width scan h so_far none) (empty_row (ledger_of h) (sound_histogram h).width)
    ∙ ap (λ (k : ℕ). scanned levels k width scan) one_more

pub empty_rows : (levels i rows width : ℕ) (scan : List ℕ) (h : Histogram) → i ≤ rows → ledger_of h ≡ scanned levels i width scan → ((j : ℕ) → row_of width scan (i + j) ≡ []) →
    ledger_of h ≡ scanned levels rows width scan
empty_rows levels i rows width scan h within so_far none =
    let all : i + (rows - i) ≡ rows = omega arith in
    empty_more levels i (rows - i) width scan h so_far none ∙ ap (λ (k : ℕ). scanned levels k width scan) all

-- rows of no width have no pixels, and nor have those past the end of the list
pub no_width : (width : ℕ) (scan : List ℕ) → width ≡ 0 → (i : ℕ) → row_of width scan i ≡ []
no_width width scan none i = ap (λ (w : ℕ). take w (drop (i * width) scan)) none

pub past_end : (width i : ℕ) (scan : List ℕ) → length (drop (i * width) scan) ≡ 0 → (j : ℕ) → row_of width scan (i + j) ≡ []
past_end width i scan none j =
    ap (take width) (drop_all ((i + j) * width) scan (omega (arith, add-mul i j width, length-drop (i * width) scan))) ∙ take_all width [] (omega arith)

-- Row `i` cut off the list from there on.
module _ (width i : ℕ) (scan row rest then : List ℕ) (ahead : rest ≡ drop (i * width) scan) (cut : rest ≡ row ++ then) (long : length row ≡ min width (length rest)) where
  both : length rest ≡ length row + length then
  both = ap length cut ∙ length-append row then

  none_left : length rest < width → then ≡ []
  none_left short = drop_all 0 then (omega (arith, both))

  pub this_row : row ≡ row_of width scan i
  this_row = elim (cases_lt (length rest) width) [
    | inl short ↦ sym (append-nil row) ∙ ap (λ (xs : List ℕ). row ++ xs) (sym (none_left short)) ∙ sym cut ∙ sym (take_all width rest (omega arith))
    | inr enough ↦
        let whole : length row ≡ width = omega arith in
        sym (take-append_seam row then) ∙ ap (take (length row)) (sym cut) ∙ ap (λ (n : ℕ). take n rest) whole
  ] ∙ ap (take width) ahead

  pub ahead_more : then ≡ drop ((i + 1) * width) scan
  ahead_more = elim (cases_lt (length rest) width) [
    | inl short ↦ none_left short ∙ sym (drop_all width rest (omega arith))
    | inr enough ↦
        let whole : length row ≡ width = omega arith in
        sym (drop-append_seam row then) ∙ ap (drop (length row)) (sym cut) ∙ ap (λ (n : ℕ). drop n rest) whole
  ] ∙ ap (drop width) ahead ∙ drop-drop width (i * width) scan ∙ ap (λ (n : ℕ). drop n scan) (omega (arith, add-mul i 1 width, one-mul width))
