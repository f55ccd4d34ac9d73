-- When a row is refused and when not, and that showing what was indexed shows each pixel by its bin.
use Rattle.std.proofs.Common.{◌≡◌, ℕ, ◌-◌, ◌<◌, ◌≤◌, min, cond, ltb, List, [], ◌∷◌, length, get_or, Some, None, Ok, Err, Result, sym, ap, ◌∙◌, inl, inr, arith}
use Rattle.std.specs.List.{prefix_len}
use Rattle.std.proofs.lemmas.Bool.{lt-ltb, le-ltb, ltb-true, cond-true, cond-false, cases_lt}
use Rattle.std.proofs.lemmas.List.{length-map, get_or-map}
use Rattle.counting.specs.Ledger.{first_no_level}
use Rattle.counting.specs.Outputs.{Row, Wrote, over}
use Rattle.refusals.specs.declared.refusal.Refusal.{Refusal}
use Rattle.std.proofs.lemmas.List.Sums.{prefix_len_is, prefix_len_passes}
use Rattle.std.proofs.lemmas.Simd.{map-map}
use Rattle.tables.specs.Table.{Table, Lawful, bin_of, representative_of, shown_by}
use Rattle.tables.specs.Rows.{indexed, greys_of, shown_row, first_no_bin, room_row, index_row, show_row, Reshown}

-- with no fault, a row fits only for want of room
pub fits_room : (first long room : ℕ) (fault : Row) → first ≡ long → cond (ltb first long) (Some fault) (room_row room long) ≡ room_row room long
fits_room first long room fault e = cond-false (ltb first long) (Some fault) (room_row room long) (le-ltb first long (omega arith))

pub room_enough : (room needed : ℕ) → needed ≤ room → room_row room needed ≡ None
room_enough room needed h = cond-false (ltb room needed) (Some (10, needed ∷ [])) None (le-ltb room needed h)

pub room_short : (room needed : ℕ) → room < needed → room_row room needed ≡ Some (10, needed ∷ [])
room_short room needed h = cond-true (ltb room needed) (Some (10, needed ∷ [])) None (lt-ltb room needed h)

pub faulty : (first long room : ℕ) (fault : Row) → first < long → cond (ltb first long) (Some fault) (room_row room long) ≡ Some fault
faulty first long room fault h = cond-true (ltb first long) (Some fault) (room_row room long) (lt-ltb first long h)

pub all_below : (limit : ℕ) (xs : List ℕ) → prefix_len (λ x. ltb x limit) xs ≡ length xs → (k : ℕ) → k < length xs → get_or xs k 0 < limit
all_below limit xs e k h = ltb-true _ _ (prefix_len_passes (λ x. ltb x limit) xs k 0 (omega arith))

-- a level's bin is one of a lawful table's
pub bin_inside : (t : Table) → Lawful t → (l : ℕ) → l < t.levels → bin_of t l < length t.bounds
bin_inside t law l h =
    let last = length t.bounds - 1 in
    elim (cases_lt (bin_of t l) (length t.bounds)) [
      | inl inside ↦ inside
      | inr beyond ↦ (
          let passed = ltb-true _ _ (prefix_len_passes (λ bound. ltb bound l) t.bounds last 0 (omega (arith, law.few))) in
          absurd (omega (arith, law.ends)))
    ]

module _ (t : Table) (law : Lawful t) (row : List ℕ) (levels : first_no_level t.levels row ≡ length row) where
  -- what was indexed has no index that is no bin's
  indexed_bins : first_no_bin t (indexed t row) ≡ length (indexed t row)
  indexed_bins = prefix_len_is (λ i. ltb i (length t.bounds)) (indexed t row) (length (indexed t row)) 0 (omega arith)
      (λ k h. let within : k < length row = rw (length-map row (bin_of t)) at h in
      let e = get_or-map (bin_of t) row k 0 0 within in
      rw e (lt-ltb _ _ (bin_inside t law (get_or row k 0) (all_below t.levels row levels k within)))) (λ h. absurd (omega arith))

  -- Both outputs have room: the row is indexed, and what was indexed is shown.
  pub reshown : (r : Result ℕ Refusal) (indices then greys greys_then part : List ℕ) → length row ≤ length indices → length row ≤ length greys →
      then ≡ over (indexed t row) indices → part ≡ indexed t row →
      Wrote (show_row t part (length greys)) (greys_of t part) r greys greys_then → Reshown t row r indices then greys greys_then
  reshown (Ok n) indices then greys greys_then part room grey_room written is w =
      let none : index_row t row (min (length indices) (length greys)) ≡ None = fits_room _ _ _ _ levels ∙ room_enough _ _ (omega arith) in
      let shown : greys_of t part ≡ shown_row t row = ap (greys_of t) is ∙ map-map (representative_of t) (bin_of t) row in
      let many : length (shown_row t row) ≡ length row = length-map row (shown_by t) in
      let few : length (indexed t row) ≡ length row = length-map row (bin_of t) in
      let count : n ≡ length (shown_row t row) = w.1 ∙ ap length shown in (
        (none, count ∙ many ∙ sym few, written),
        (none, count, w.2 ∙ ap (λ (cells : List ℕ). over cells greys) shown),
      )
  reshown (Err e) indices then greys greys_then part room grey_room written is w =
      let fine : show_row t part (length greys) ≡ None =
      ap (λ (xs : List ℕ). show_row t xs (length greys)) is ∙ fits_room _ _ _ _ indexed_bins ∙ room_enough _ _ (rw (length-map row (bin_of t)) grey_room) in
      absurd (cc (fine, w.0))

-- where no row fits, there is no fault, and room enough
pub none_fits : (first long room : ℕ) (fault : Row) → first ≤ long → cond (ltb first long) (Some fault) (room_row room long) ≡ None → (first ≡ long) × (long ≤ room)
none_fits first long room fault h e = elim (cases_lt first long) [
  | inl lt ↦ absurd (cc (e, faulty first long room fault lt))
  | inr ge ↦ (
      let all : first ≡ long = omega arith in
      let enough : room_row room long ≡ None = sym (fits_room first long room fault all) ∙ e in
      (all, elim (cases_lt room long) [ inl short ↦ absurd (cc (enough, room_short room long short)) | inr fits ↦ fits ]))
]
