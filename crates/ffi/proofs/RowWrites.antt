-- One row more written at its own place of an output.
use Rattle.std.proofs.Common.{◌≡◌, ℕ, ◌+◌, ◌-◌, ◌*◌, ◌<◌, ◌≤◌, min, List, map, length, get_or, take, drop, None, Ok, Err, true, false, true≢false, Option, Result, sym, refl, ap, ◌∙◌, subst, ap₂, inl, inr, add-mul, one-mul, arith, rules}
use borrow.Rule.Slice.PartMut.{put_mid, put_same}
use Rattle.std.proofs.lemmas.List.{places, length-take, length-drop, length-map, length-append, get_or_append_left, get_or-append_right, get_or-take, get_or-drop, get_or-map}
use Rattle.std.proofs.lemmas.Option.{none-some}
use Rattle.std.specs.Result.{is_err}
use Rattle.std.proofs.lemmas.Bool.{cases_lt, cases_eq}
use Rattle.refusals.specs.declared.refusal.Refusal.{Refusal}
use Rattle.counting.specs.Outputs.{Row, row_of as row_of_refusal, over, Wrote}
use Rattle.ffi.specs.Scans.{row_of, Written}

-- the cells of a list after a write to a part of it
module _ {X : Type 0} (xs ys : List X) (s e : ℕ) (low : s ≤ e) (high : e ≤ length xs) (long : length ys ≡ e - s) (x : X) where
  get_below : (k : ℕ) → k < s → get_or (put_mid s (e - s) xs ys) k x ≡ get_or xs k x
  get_below k h = search (rules, places)

  get_in : (k : ℕ) → s ≤ k → k < e → get_or (put_mid s (e - s) xs ys) k x ≡ get_or ys (k - s) x
  get_in k h h' = search (rules, places)

  get_past : (k : ℕ) → e ≤ k → get_or (put_mid s (e - s) xs ys) k x ≡ get_or xs k x
  get_past k h = search (rules, places)

-- Row `i` of a scan, and its part of the output, from `s` to `e`, which then holds `part`.
module _ {X Y : Type 0} (f : X → Y) (fits : List X → ℕ → Option Row) (width : ℕ) (scan row : List X) (before out part : List Y) (i s e : ℕ) (kept : length out ≡ length before)
    (row_is : row ≡ row_of width scan i) (s_is : s ≡ min (i * width) (length out)) (e_is : e ≡ min (i * width + width) (length out))
    (long : length part ≡ length (take (e - s) (drop s out))) (w : Written f fits i width scan before out i) where
  room : length (take (e - s) (drop s out)) ≡ e - s
  room = omega (arith, length-take (e - s) (drop s out), length-drop s out)

  row_long : length row ≡ min width (length scan - i * width)
  row_long = omega (arith, ap length row_is, length-take width (drop (i * width) scan), length-drop (i * width) scan)

  fits_same : fits row (length (take (e - s) (drop s out))) ≡ fits (row_of width scan i) (length (row_of width before i))
  fits_same = ap₂ fits row_is (omega (arith, room, length-take width (drop (i * width) before), length-drop (i * width) before))

  -- a refused row: the part is as it was
  pub stopped_here : (rows : ℕ) → i < rows → (result : Result ℕ Refusal) → is_err result ≡ true →
      Wrote (fits row (length (take (e - s) (drop s out)))) (map f row) result (take (e - s) (drop s out)) part → Written f fits rows width scan before (put_mid s (e - s) out part) i
  stopped_here rows more (Ok count) is wrote = absurd (true≢false (sym is))
  stopped_here rows more (Err refusal) is (refused, same) =
      let back : put_mid s (e - s) out part ≡ out = ap (put_mid s (e - s) out) same ∙ put_same s (e - s) out in
      record {
        within = omega arith;
        cells = λ x y k h. ap (λ (ys : List Y). get_or ys k y) back ∙ w.cells x y k h;
        rest = λ y k h. ap (λ (ys : List Y). get_or ys k y) back ∙ w.rest y k h;
        accepted = w.accepted;
        stopped = λ _ none. none-some (row_of_refusal refusal) (sym none ∙ sym fits_same ∙ refused);
      }

  -- an accepted row
  one_more : fits row (length (take (e - s) (drop s out))) ≡ None → part ≡ over (map f row) (take (e - s) (drop s out)) →
      Written f fits (i + 1) width scan before (put_mid s (e - s) out part) (i + 1)
  one_more accepts is = record {
    within = omega arith;
    cells = λ x y k h. new_cell x y k (omega (arith, next));
    rest = λ y k h. unaltered y k (omega (arith, next)) ∙ w.rest y k (omega (arith, next));
    accepted = λ j h. elim (cases_eq j i) [
      | inl same ↦ ap (λ (m : ℕ). fits (row_of width scan m) (length (row_of width before m))) same ∙ sym fits_same ∙ accepts
      | inr other ↦ w.accepted j (omega arith)
    ];
    stopped = λ h. absurd (omega arith);
  }
    where
      next : (i + 1) * width ≡ i * width + width
      next = add-mul i 1 width ∙ ap (λ (x : ℕ). i * width + x) (one-mul width)

      cells_long : length (map f row) ≡ length row
      cells_long = length-map row f

      enough : length row ≤ e - s
      enough = omega (arith, ap length is, length-append (map f row) (drop (length (map f row)) (take (e - s) (drop s out))), cells_long, room, long)

      part_long : length part ≡ e - s
      part_long = long ∙ room

      low : s ≤ e
      low = omega arith

      high : e ≤ length out
      high = omega arith

      -- a cell of the part that the row writes, and one that it leaves
      written : (x : X) (y : Y) (j : ℕ) → j < length row → get_or part j y ≡ f (get_or scan (i * width + j) x)
      written x y j h =
          ap (λ (ys : List Y). get_or ys j y) is ∙ get_or_append_left (map f row) _ y j (omega (arith, cells_long)) ∙ get_or-map f row j x y h
          ∙ ap (λ (xs : List X). f (get_or xs j x)) row_is ∙ ap f (get_or-take width (drop (i * width) scan) j x (omega (arith, row_long)) ∙ get_or-drop (i * width) scan j x)

      left : (y : Y) (j : ℕ) → length row ≤ j → j < e - s → get_or part j y ≡ get_or out (s + j) y
      left y j h h' =
          let n = length (map f row) in
          let back : n + (j - n) ≡ j = omega (arith, cells_long) in
          ap (λ (ys : List Y). get_or ys j y) is ∙ get_or-append_right (map f row) _ n j y refl (omega (arith, cells_long))
          ∙ get_or-drop n (take (e - s) (drop s out)) (j - n) y ∙ ap (λ (m : ℕ). get_or (take (e - s) (drop s out)) m y) back ∙ get_or-take (e - s) (drop s out) j y h' ∙ get_or-drop s out j y

      outside : (y : Y) (k : ℕ) → k < i * width → get_or (put_mid s (e - s) out part) k y ≡ get_or out k y
      outside y k h = elim (cases_lt k s) [
        | inl below ↦ get_below out part s e low high part_long y k below
        | inr past ↦ get_past out part s e low high part_long y k (omega arith)
      ]

      new_cell : (x : X) (y : Y) (k : ℕ) → k < min (i * width + width) (length scan) → get_or (put_mid s (e - s) out part) k y ≡ f (get_or scan k x)
      new_cell x y k h = elim (cases_lt k (min (i * width) (length scan))) [
        | inl old ↦ outside y k (omega arith) ∙ w.cells x y k old
        | inr new ↦
            let back : i * width + (k - s) ≡ k = omega (arith, enough, row_long) in
            get_in out part s e low high part_long y k (omega (arith, enough, row_long)) (omega (arith, enough, row_long)) ∙ written x y (k - s) (omega (arith, enough, row_long))
            ∙ ap (λ (j : ℕ). f (get_or scan j x)) back
      ]

      unaltered : (y : Y) (k : ℕ) → min (i * width + width) (length scan) ≤ k → get_or (put_mid s (e - s) out part) k y ≡ get_or out k y
      unaltered y k h = elim (cases_lt k s) [
        | inl below ↦ get_below out part s e low high part_long y k below
        | inr from_s ↦ elim (cases_lt k e) [
          | inl inside ↦
              let back : s + (k - s) ≡ k = omega arith in
              get_in out part s e low high part_long y k from_s inside ∙ left y (k - s) (omega (arith, row_long)) (omega arith) ∙ ap (λ (j : ℕ). get_or out j y) back
          | inr past ↦ get_past out part s e low high part_long y k past
        ]
      ]

  pub next_row : (result : Result ℕ Refusal) → is_err result ≡ false → Wrote (fits row (length (take (e - s) (drop s out)))) (map f row) result (take (e - s) (drop s out)) part →
      Written f fits (i + 1) width scan before (put_mid s (e - s) out part) (i + 1)
  next_row (Ok count) is (accepts, _, written) = one_more accepts written
  next_row (Err refusal) is wrote = absurd (true≢false is)

-- all of the rows
pub all_rows : {X Y : Type 0} (f : X → Y) (fits : List X → ℕ → Option Row) (rows i width : ℕ) (scan : List X) (before then : List Y) → i ≡ rows → Written f fits i width scan before then i → Written f fits rows width scan before then rows
all_rows f fits rows i width scan before then e w = subst (λ (n : ℕ). Written f fits n width scan before then n) e w
