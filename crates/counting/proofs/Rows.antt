-- What a loop over a row needs: the front of a list that passes a test, how often a level occurs, and sums with zeros in them.
use Rattle.std.proofs.Common.{◌-◌, ◌++◌, drop, length-append, Option, Some, None, ltb, ◌&&◌, ◌≡◌, ℕ, zero, suc, ◌+◌, ◌<◌, ◌≤◌, Bool, true, false, cond, eqb, ◌≢◌, List, [], ◌∷◌, length, get_or, take, set, replicate, sum, sym, refl, ap, ◌∙◌, inl, inr, arith}
use Rattle.std.specs.List.{fold, prefix_len, AllWithin, HoldsAt}
use Rattle.std.specs.Option.{MatchOption}
use Rattle.std.proofs.lemmas.Bool.{ne_eqb, eq-eqb, cases_eq, lt-ltb, le-ltb, ltb-true, false≢true}
use Rattle.std.proofs.lemmas.List.Folds.{fold_stays}
use Rattle.std.proofs.lemmas.List.Sums.{prefix_len_is, sum_by-cons, count_by_more_yes, count_by_more_no}
use Rattle.std.proofs.lemmas.List.{get_or_past, length-take, get_or-set_same, get_or-set_other, length-replicate, drop-replicate, get_or-append_right}
use Rattle.std.proofs.Math.Seq.{take-append_seam}
use Rattle.counting.specs.Ledger.{occurs}

-- the first place of a row at which a number is not below the limit, as a search finds it
pub first_not_below : (limit : ℕ) (row : List ℕ) (found : Option ℕ) →
    MatchOption found (AllWithin (λ p. p < limit) row 0 (length row)) (λ i. (i < length row) × HoldsAt (λ p. limit ≤ p) row i × AllWithin (λ p. p < limit) row 0 i) →
    MatchOption found (prefix_len (λ p. ltb p limit) row ≡ length row) (λ i. (i ≡ prefix_len (λ p. ltb p limit) row) × (i < length row))
first_not_below limit row None all = prefix_len_is (λ p. ltb p limit) row (length row) 0 (omega arith) (λ k h. lt-ltb _ _ (all k 0 (omega arith) h)) (λ h. absurd (omega arith))
first_not_below limit row (Some i) (within, here, before) = (
  sym (prefix_len_is (λ p. ltb p limit) row i 0 (omega arith) (λ k h. lt-ltb _ _ (before k 0 (omega arith) h)) (λ h. le-ltb _ _ (here 0))),
  within,
)

-- a row that is folded to true has no number that is not below the limit
pub all_below_fold : (limit : ℕ) (row : List ℕ) → fold (λ all p. all && ltb p limit) true row ≡ true → (k : ℕ) → k < length row → get_or row k 0 < limit
all_below_fold limit [] folded = λ k h. absurd (omega arith)
all_below_fold limit (x ∷ row) folded = go (ltb x limit) refl folded (all_below_fold limit row)
  where
    go : (b : Bool) → ltb x limit ≡ b → fold (λ all p. all && ltb p limit) b row ≡ true → (fold (λ all p. all && ltb p limit) true row ≡ true → (k : ℕ) → k < length row → get_or row k 0 < limit) →
        (k : ℕ) → k < length (x ∷ row) → get_or (x ∷ row) k 0 < limit
    go true e folded rest zero h = ltb-true _ _ e
    go true e folded rest (suc k) h = rest folded k (omega arith)
    go false e folded rest k h = absurd (false≢true (sym (fold_stays (λ all p. all && ltb p limit) false (λ _. refl) row) ∙ folded))

-- a level that no pixel of the row is does not occur
pub occurs_none : (row : List ℕ) (l : ℕ) → ((k : ℕ) → k < length row → get_or row k 0 ≡ l → ⊥) → occurs l row ≡ 0
occurs_none [] l apart = refl
occurs_none (x ∷ row) l apart =
    let ne : eqb l x ≡ false = ne_eqb l x (λ e. apart 0 (omega arith) (sym e)) in
    let rest = occurs_none row l (λ k h. apart (suc k) (omega arith)) in
    sum_by-cons (λ y. cond (eqb l y) 1 0) x row ∙ rw (ne, rest) refl

pub sum_zeros : (xs : List ℕ) → ((l : ℕ) → l < length xs → get_or xs l 0 ≡ 0) → sum xs ≡ 0
sum_zeros [] all = refl
sum_zeros (x ∷ xs) all =
    let first : x ≡ 0 = all 0 (omega arith) in
    let rest = sum_zeros xs (λ l h. all (suc l) (omega arith)) in
    sum_by-cons (λ y. y) x xs ∙ rw (first, rest) refl

pub zeros_at : (n l : ℕ) → ◌≡◌ {A = ℕ} (get_or (replicate n 0) l 0) 0
zeros_at zero l = refl
zeros_at (suc n) zero = refl
zeros_at (suc n) (suc l) = zeros_at n l

pub zeros_sum : (k n : ℕ) → sum (take k (replicate n 0)) ≡ 0
zeros_sum zero n = refl
zeros_sum (suc k) zero = refl
zeros_sum (suc k) (suc n) = sum_by-cons (λ y. y) 0 (take k (replicate n 0)) ∙ rw (zeros_sum k n) refl

-- one more pixel of the row: its own level occurs once more, and every other as often as before
pub occurs_same : (row : List ℕ) (i : ℕ) → i < length row → occurs (get_or row i 0) (take (i + 1) row) ≡ occurs (get_or row i 0) (take i row) + 1
occurs_same row i h = count_by_more_yes (eqb (get_or row i 0)) row i 0 h (eq-eqb _ _ refl)

pub occurs_other : (row : List ℕ) (i l : ℕ) → i < length row → l ≢ get_or row i 0 → occurs l (take (i + 1) row) ≡ occurs l (take i row)
occurs_other row i l h ne = count_by_more_no (eqb l) row i 0 h (ne_eqb _ _ ne)

-- each level changed by how often it occurs in the row so far, and then once more at the level of one more pixel
pub changed_more : (change : ℕ → ℕ → ℕ) (old new row : List ℕ) (i v : ℕ) →
    length new ≡ 1024 → i < length row → get_or row i 0 < 1024 →
    ((k : ℕ) → k < 1024 → get_or new k 0 ≡ change (get_or old k 0) (occurs k (take i row))) →
    v ≡ change (get_or old (get_or row i 0) 0) (occurs (get_or row i 0) (take i row) + 1) →
    (k : ℕ) → k < 1024 → get_or (set new (get_or row i 0) v) k 0 ≡ change (get_or old k 0) (occurs k (take (i + 1) row))
changed_more change old new row i v wide within level each one k h = elim (cases_eq k (get_or row i 0)) [ inl e ↦ same e | inr ne ↦ other ne ]
  where
    same : k ≡ get_or row i 0 → get_or (set new (get_or row i 0) v) k 0 ≡ change (get_or old k 0) (occurs k (take (i + 1) row))
    same e =
        let p = get_or row i 0 in
        rw e (get_or-set_same new p v 0 (omega arith) ∙ one ∙ ap (change (get_or old p 0)) (sym (occurs_same row i within)))

    other : k ≢ get_or row i 0 → get_or (set new (get_or row i 0) v) k 0 ≡ change (get_or old k 0) (occurs k (take (i + 1) row))
    other ne = get_or-set_other new (get_or row i 0) k v 0 ne ∙ each k h ∙ ap (change (get_or old k 0)) (sym (occurs_other row i k within ne))

-- past a front of a list there is nothing
pub getD_take_past : (n : ℕ) (xs : List ℕ) (i : ℕ) → n ≤ i → get_or (take n xs) i 0 ≡ 0
getD_take_past n xs i h = get_or_past (take n xs) i 0 (simp length-take (omega arith))

-- numbers with zeros after them, up to 1024 in all
pub padded_is : (numbers : List ℕ) → numbers ++ drop (length numbers) (replicate 1024 0) ≡ numbers ++ replicate (1024 - length numbers) 0
padded_is numbers = ap (λ (rest : List ℕ). numbers ++ rest) (drop-replicate (length numbers) 1024 0)

pub length_padded : (numbers : List ℕ) → length numbers ≤ 1024 → length (numbers ++ replicate (1024 - length numbers) 0) ≡ 1024
length_padded numbers few = length-append numbers _ ∙ rw length-replicate (omega arith)

pub front_of_padded : (numbers : List ℕ) → take (length numbers) (numbers ++ replicate (1024 - length numbers) 0) ≡ numbers
front_of_padded numbers = take-append_seam numbers _

pub past_padded : (numbers : List ℕ) (l : ℕ) → length numbers ≤ l → get_or (numbers ++ replicate (1024 - length numbers) 0) l 0 ≡ 0
past_padded numbers l h = get_or-append_right numbers _ (length numbers) l 0 refl h ∙ zeros_at (1024 - length numbers) (l - length numbers)
