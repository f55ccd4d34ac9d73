-- The levels of a bin: where they begin and end, which part of the histogram's list has their pixels, and that these are no more than all.
use Rattle.std.proofs.Common.{◌≡◌, ℕ, zero, suc, ◌+◌, ◌-◌, ◌<◌, ◌≤◌, List, length, get_or, drop, sum, slice_range, sym, ap, ◌∙◌, add-one, arith}
use Rattle.std.proofs.lemmas.List.Sums.{sum_by-take-drop, sum_by-take-le}
use Rattle.std.proofs.lemmas.List.{length-map}
use Rattle.std.proofs.lemmas.Simd.{pick_l-range_with_len}
use Rattle.counting.specs.Ledger.{Ledger}
use Rattle.tables.specs.Table.{Table, Lawful, bound_of, representative_of}
use Rattle.tables.specs.Bins.{bounds_in, representatives_in}
use Rattle.tables.specs.declared.table.Bin.{Bin}
use Rattle.tables.proofs.Bins.{no_bin, bound_at, representative_at}
use Rattle.branch.specs.Report.{first_of, pixels_between}

-- the part of a ledger's list from `first` to `last` has the pixels of its levels, one by one
pub part_is : (g : Ledger) (first last : ℕ) → first ≤ last + 1 → last < length g.at → sum (slice_range g.at first (last + 1)) ≡ pixels_between g first last
part_is g first last begins below = ap sum (sym (pick_l-range_with_len 0 g.at first (last + 1 - first) (omega arith)))

pub part_le : (xs : List ℕ) (from to : ℕ) → sum (slice_range xs from to) ≤ sum xs
part_le xs from to = omega (arith, sum_by-take-drop (λ x. x) xs from, sum_by-take-le (λ x. x) (drop from xs) (to - from))

pub first_le : (t : Table) → Lawful t → (bin : ℕ) → bin < length t.bounds → first_of t bin ≤ bound_of t bin + 1
first_le t law zero h = omega arith
first_le t law (suc bin) h =
    let above : bound_of t bin < bound_of t (suc bin) = rw add-one at (law.rising bin (omega arith)) in
    omega arith

-- a bin of a list that has the table's bins: it is one of the table's, with its bound and its representative
pub record Here (t : Table) (bin : ℕ) (is : Bin) : Type 0 where
  pub within : bin < length t.bounds
  pub bound : is.bound ≡ bound_of t bin
  pub representative : is.representative ≡ representative_of t bin

pub bin_here : (t : Table) (bins : List Bin) → bounds_in bins ≡ t.bounds → representatives_in bins ≡ t.representatives → (bin : ℕ) → bin < length bins → Here t bin (get_or bins bin no_bin)
bin_here t bins bounds representatives bin h = record {
  within = omega (arith, ap length bounds, length-map bins (λ (b : Bin). b.bound));
  bound = sym (bound_at bins bin h) ∙ ap (λ (xs : List ℕ). get_or xs bin 0) bounds;
  representative = sym (representative_at bins bin h) ∙ ap (λ (xs : List ℕ). get_or xs bin 0) representatives;
}

-- the bin after a bin begins above its bound
pub next_first : (t : Table) (bin bound : ℕ) → bound ≡ bound_of t bin → bound + 1 ≡ first_of t (bin + 1)
next_first t bin bound is = rw (add-one bin) (ap (λ (level : ℕ). level + 1) is)
