-- One run placed: one start more has been tried.
use Rattle.std.proofs.Common.{◌≡◌, ℕ, zero, suc, ◌+◌, ◌-◌, ◌*◌, ◌<◌, ◌≤◌, max, Bool, false, cond, ◌≢◌, ◌⊎◌, List, [], ◌∷◌, length, get_or, set, sym, refl, ap, ◌∙◌, subst, ap₂, inl, inr, suc-mul, add-one, arith, length-set}
use Rattle.std.proofs.lemmas.List.{get_or-set_same, get_or-set_other}
use Rattle.std.proofs.lemmas.Nat.{mul-add-lt}
use Rattle.std.proofs.lemmas.Bool.{cases_eq, cases_lt}
use Rattle.pricing.specs.Tallies.{Ops, Laws}
use Rattle.divisions.specs.Divisions.{highest_least}
use Rattle.drawing.specs.Cells.{Turned, Needed, Cell, Tried, Searched, ending_at}
use Rattle.divisions.specs.Recurrence.{best_division, least_tally}
use Rattle.divisions.proofs.Order.{least_in, kept_lowest}
use Rattle.divisions.proofs.Divisions.{least_one, least_more, best_division_more}

-- the cells of fewer levels stand before those of more
pub row_below : (k n b m : ℕ) → k < n → m < b → k * b + m < n * b
row_below k n b m lt inside = omega (arith, mul-add-lt k b m n lt inside)

-- the cells of a run and those before it lie within the lists
pub row_inside : (c b start end from to tallies links : ℕ) → start ≤ end → end < c → 0 < start → 1 ≤ from → from ≤ to → to ≤ b → c * b ≤ tallies → c * b ≤ links →
    (end * b + from + (to - from) ≤ tallies) × (end * b + from + (to - from) ≤ links) × ((start - 1) * b + (from - 1) + (to - from) ≤ end * b + from)
row_inside c b start end from to tallies links order inside pos up few most t l =
    let row = row_below end c b (to - 1) inside (omega arith) in
    let before = row_below (start - 1) end b (to - 1) (omega arith) (omega arith) in
    (omega arith, omega arith, omega arith)

module _ {C : Type 0} (o : Ops C) (L : Laws o) (cost : ℕ → ℕ → C) (c b n start : ℕ) (begun : start < n) (all : n ≤ c) (some : 0 < b) (few : b ≤ c) where
  one_run : (price : C) → start ≡ 0 → price ≡ cost start (n - start) → Cell o cost 0 n price 0
  unfolding best_division
  one_run price zero' is = record {
    least = (let e : cost start (n - start) ≡ cost 0 n = ap₂ (λ (i d : ℕ). cost i d) zero' (omega arith) in is ∙ e ∙ sym (least_one o L cost n (omega arith)));
    runs = (let e : n ≡ n - 0 = omega arith in ap (λ (x : ℕ). x ∷ []) e);
    low = omega arith;
    high = omega arith;
  }

  -- the first counted level begins the run: it is the only run
  pub placed_first : (ts : List C) (ls : List ℕ) (price : C) → start ≡ 0 → price ≡ cost start (n - start) → Searched o cost c b n (start + 1) ts ls →
      Searched o cost c b n start (set ts ((n - 1) * b) price) (set ls ((n - 1) * b) 0)
  placed_first ts ls price zero' is s =
      let at = (n - 1) * b in
      let only = one_run price zero' is in
      let inside : at < c * b = (let h = row_below (n - 1) c b 0 (omega arith) some in omega arith) in
      let there : at < length ts = omega (arith, s.room) in
      let link_there : at < length ls = omega (arith, s.room) in
      let keeps : (k : ℕ) → k ≢ at → (get_or (set ts at price) k o.neutral ≡ get_or ts k o.neutral) × (get_or (set ls at 0) k 0 ≡ get_or ls k 0) =
      λ k ne. (get_or-set_other ts at k price o.neutral ne, get_or-set_other ls at k 0 0 ne) in
      record {
        room = (omega (arith, s.room, length-set ts at price), omega (arith, s.room, length-set ls at 0));
        filled = (λ m k lt need.
            let below = row_below (k - 1) (n - 1) b m (omega (arith, need.under)) need.bin in
            let same = keeps ((k - 1) * b + m) (omega arith) in
            let cell = s.filled m k lt need in rw (same.0, same.1) cell);
        first = (λ _ need. rw (get_or-set_same ts at price o.neutral there, get_or-set_same ls at 0 0 link_there) only);
        tried = (λ m pos need lt.
            let same = keeps (at + m) (omega arith) in
            let more : start + 1 < n = omega (arith, need.under) in
            let e : max start m ≡ max (start + 1) m = omega arith in
            rw (same.0, same.1, e) (s.tried m pos need more));
      }

  -- a cell after one start more, where `r` says whether it kept what it had
  settled : (m : ℕ) (old new x : C) (old_link link : ℕ) (r : Bool) → x ≡ ending_at o cost m n start → new ≡ cond r old x → link ≡ cond r old_link start →
      ((start + 1 ≡ n) × (r ≡ false)) ⊎ ((start + 1 < n) × (r ≡ o.not_above old x) × Tried o cost m n (start + 1) old old_link) → Tried o cost m n start new link
  unfolding highest_least
  settled m old new x old_link link r gives tally place how = elim how [
    | inl last ↦ (
        let none : n - 1 - start ≡ 0 = omega arith in
        let link_is : link ≡ start = rw last.1 at place in
        let tally_is : new ≡ x = rw last.1 at tally in
        record { lowest = rw none link_is; tally_is = tally_is ∙ gives ∙ ap (ending_at o cost m n) (sym link_is) })
    | inr more ↦ (
        let d = n - 1 - suc start in
        let one_more : n - 1 - start ≡ suc d = omega arith in
        let above : old_link ≡ highest_least o (ending_at o cost m n) (suc start) d = rw add-one at more.2.lowest in
        let k = kept_lowest o L (ending_at o cost m n) start d old_link link old new x r above more.2.tally_is gives more.1 place tally in
        record { lowest = rw one_more k.0; tally_is = k.1 })
  ]

  -- The run is put after what the cells hold that end where it starts, at the bin numbers from `from` to `to`.
  module _ (keep : C → C → Bool) (price : C) (from to : ℕ) (ts ts' : List C) (ls ls' : List ℕ)
      (pos : 0 < start) (is : price ≡ cost start (n - start)) (up : 1 ≤ from) (order : from ≤ to) (down : to ≤ max from (start + 1))
      (fits : (m : ℕ) → 0 < m → Needed c b m n → (from ≤ m) × (m ≤ start → m < to))
      (keeps : ((start + 1 ≡ n) × ((p q : C) → keep p q ≡ false)) ⊎ ((start + 1 < n) × ((p q : C) → keep p q ≡ o.not_above p q)))
      (turn : Turned o keep price start ((n - 1) * b + from) ((start - 1) * b + (from - 1)) (to - from) ts ts' ls ls')
      (s : Searched o cost c b n (start + 1) ts ls) where
    row : ℕ
    row = (n - 1) * b + from

    -- what the run gives at the bin number m
    gives : (m : ℕ) → 0 < m → Needed c b m n → m ≤ start → o.join price (get_or ts ((start - 1) * b + (from - 1) + (m - from)) o.neutral) ≡ ending_at o cost m n start
    gives m p need low =
        let within = fits m p need in
        let under = within.1 low in
        let before : Needed c b (m - 1) start = record { under = omega arith; over = omega (arith, need.over, all, begun); bin = omega (arith, need.bin); last = inl (omega (arith, need.bin)) } in
        let cell = s.filled (m - 1) start begun before in
        let place : (start - 1) * b + (from - 1) + (m - from) ≡ (start - 1) * b + (m - 1) = omega arith in
        let one : m - 1 + 1 ≡ m = omega arith in
        ap₂ (λ (x y : C). o.join x y) is
        (ap (λ (i : ℕ). get_or ts i o.neutral) place ∙ cell.least ∙ ap (λ (q : ℕ). least_tally o cost q start) one)

    here : (m : ℕ) → 0 < m → Needed c b m n → m ≤ start → Tried o cost m n start (get_or ts' ((n - 1) * b + m) o.neutral) (get_or ls' ((n - 1) * b + m) 0)
    here m p need low =
        let within = fits m p need in
        let under = within.1 low in
        let place : (n - 1) * b + from + (m - from) ≡ (n - 1) * b + m = omega arith in
        let tally = turn.tallies (m - from) (omega arith) in
        let link = turn.links (m - from) (omega arith) in
        let at_place = λ (i : ℕ). Tried o cost m n start (get_or ts' i o.neutral) (get_or ls' i 0) in
        subst at_place place
        (settled m _ _ _ _ _ _ (gives m p need low) tally link (elim keeps [
          | inl last ↦ inl (last.0, last.1 _ _)
          | inr more ↦ inr (
            more.0,
            more.1 _ _,
            (
                let e : max (start + 1) m ≡ start + 1 = omega arith in
                let old = λ (i : ℕ). Tried o cost m n (start + 1) (get_or ts i o.neutral) (get_or ls i 0) in
                subst old (sym place) (rw e at (s.tried m p need more.0))),
          )
        ]))

    pub placed_turn : Searched o cost c b n start ts' ls'
    placed_turn = record {
      room = (omega (arith, s.room, turn.long), omega (arith, s.room, turn.long));
      filled = (λ m k lt need.
          let below = row_below (k - 1) (n - 1) b m (omega (arith, need.under)) need.bin in
          let same = turn.others ((k - 1) * b + m) (inl (omega arith)) in
          rw (same.0, same.1) (s.filled m k lt need));
      first = (λ e. absurd (omega arith));
      tried = (λ m p need lt. elim (cases_lt start m) [
        | inl beyond ↦ (
            let within = fits m p need in
            let same = turn.others ((n - 1) * b + m) (inr (omega arith)) in
            let e : max start m ≡ max (start + 1) m = omega arith in
            rw (same.0, same.1, e) (s.tried m p need (omega (arith, need.under))))
        | inr low ↦ (let e : max start m ≡ start = omega arith in rw e (here m p need low))
      ]);
    }

-- The starts down to the lowest that a run can have are tried: the cells of n levels are filled.
module _ {C : Type 0} (o : Ops C) (L : Laws o) (cost : ℕ → ℕ → C) (c b n from : ℕ) (some : 0 < n) (few : b ≤ c) (lowest : from ≤ n - 1 - (c - b)) (ts : List C) (ls : List ℕ)
    (s : Searched o cost c b n from ts ls) where
  row_cell : (m : ℕ) → Needed c b m n → Cell o cost m n (get_or ts ((n - 1) * b + m) o.neutral) (get_or ls ((n - 1) * b + m) 0)
  row_cell zero need =
      let none : (n - 1) * b + 0 ≡ (n - 1) * b = omega arith in
      rw none (s.first (omega (arith, need.over)) need)
  row_cell (suc m) need =
      let q = suc m in
      let t = s.tried q (omega arith) need (omega arith) in
      let top : max from q ≡ q = omega (arith, need.over) in
      let link_is : get_or ls ((n - 1) * b + q) 0 ≡ highest_least o (ending_at o cost q n) q (n - 1 - q) = rw top at t.lowest in
      let in' = least_in o (ending_at o cost q n) q (n - 1 - q) in
      let one : q + 1 ≡ suc q = omega arith in
      record {
        least = t.tally_is ∙ sym (least_more o L cost q n _ (omega arith) need.under link_is) ∙ ap (λ (x : ℕ). least_tally o cost x n) (sym one);
        runs = ap (λ (x : ℕ). best_division o cost x n) one ∙ best_division_more o cost q n _ (omega arith) link_is;
        low = omega (arith, in'.0);
        high = omega (arith, in'.1, need.under);
      }

  pub row_filled : Searched o cost c b (n + 1) (n + 1) ts ls
  row_filled = record {
    room = s.room;
    filled = (λ m k lt need. elim (cases_eq k n) [ inl e ↦ (let N : Needed c b m n = rw e at need in rw e (row_cell m N)) | inr ne ↦ s.filled m k (omega arith) need ]);
    first = (λ e. absurd (omega arith));
    tried = (λ m p need lt. absurd (omega arith));
  }

-- before the first end nothing is owed
pub nothing_searched : {C : Type 0} (o : Ops C) (cost : ℕ → ℕ → C) (c b : ℕ) (ts : List C) (ls : List ℕ) → c * b ≤ length ts → c * b ≤ length ls → Searched o cost c b 1 1 ts ls
nothing_searched o cost c b ts ls t l = record {
  room = (t, l);
  filled = (λ m k lt need. absurd (omega (arith, need.under)));
  first = (λ e. absurd (omega arith));
  tried = (λ m p need lt. absurd (omega arith));
}

-- the last cell has the least tally of all levels
last_cell : (c b : ℕ) → 0 < c → 0 < b → c * b - 1 ≡ (c - 1) * b + (b - 1)
last_cell c b some bins = let one : suc (c - 1) ≡ c = omega arith in let e = suc-mul (c - 1) b in let f : c * b ≡ suc (c - 1) * b = ap (λ (x : ℕ). x * b) (sym one) in omega arith

pub last_tally : {C : Type 0} (o : Ops C) (cost : ℕ → ℕ → C) (c b : ℕ) (ts : List C) (ls : List ℕ) → 0 < b → b ≤ c → Searched o cost c b (c + 1) (c + 1) ts ls → get_or ts (c * b - 1) o.neutral ≡ least_tally o cost b c
last_tally o cost c b ts ls some few s =
    let one : b - 1 + 1 ≡ b = omega arith in
    let cell = s.filled (b - 1) c (omega arith) (record { under = omega arith; over = omega arith; bin = omega arith; last = inr refl }) in
    ap (λ (i : ℕ). get_or ts i o.neutral) (last_cell c b (omega arith) some) ∙ cell.least ∙ ap (λ (q : ℕ). least_tally o cost q c) one
