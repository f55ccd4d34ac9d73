-- The links followed from the last bin to the first: the bins that are left, and those already read.
use Rattle.std.proofs.Common.{◌≡◌, ℕ, ◌+◌, ◌-◌, ◌*◌, ◌<◌, ◌≤◌, ◌⊎◌, List, [], ◌∷◌, ◌++◌, map, length, get_or, reverse, set, Some, None, Option, IsSome, MatchOption, sym, refl, ap, ◌∙◌, subst, ap₂, inl, inr, arith}
use Rattle.std.proofs.lemmas.List.{append_assoc, append-nil, map_push, take_all, take-append-le, reverse-append, set_at, length_push, length-map, get_or-append_right}
use Rattle.std.specs.List.{refill}
use Rattle.counting.specs.Ledger.{Ledger, counted_levels}
use Rattle.pricing.specs.Tallies.{Ops, Laws}
use Rattle.counting.specs.Sound.{Sound}
use Rattle.divisions.specs.Divisions.{level_at, representative, price, Divides}
use Rattle.drawing.specs.Cells.{Cell, Searched}
use Rattle.divisions.specs.Recurrence.{best_division}
use Rattle.divisions.specs.Tables.{bins_below, table_to, table_by, table_for}
use Rattle.divisions.proofs.Divisions.{best_divides, best_division_best}
use Rattle.divisions.proofs.Stated.{tables_stand}
use Rattle.std.proofs.lemmas.Simd.{map-map}
use Rattle.drawing.specs.Filling.{bin_with}
use Rattle.tables.specs.Table.{Table, given, Lawful}
use Rattle.tables.specs.Bins.{table_in}
use Rattle.tables.specs.declared.table.Bin.{Bin}
use Rattle.tables.proofs.Bins.{no_bin}
use Rattle.tables.specs.Meaning.{table_of}
use Rattle.tables.specs.declared.table.LevelTable.{LevelTable}

-- what is put at the end of a list stands first when the list is turned round
pub reverse_more : {X : Type 0} (xs : List X) (x : X) → reverse (xs ++ x ∷ []) ≡ x ∷ reverse xs
reverse_more xs x = reverse-append xs (x ∷ [])

-- a list written over by one that is as long
pub written_over : {X : Type 0} (xs ws : List X) → length ws ≡ length xs → refill (length xs) xs ws ≡ ws
written_over xs ws long = take-append-le (length xs) ws _ (omega arith) ∙ take_all (length xs) ws (omega arith)

-- the bins of the best division of the first n counted levels into `left` runs
abbrev pub bins_to : {C : Type 0} → Ops C → (ℕ → ℕ → ℕ) → Ledger → ℕ → ℕ → List Bin
bins_to o error g left n = map bin_with (bins_below o error g (best_division o (price o error g) left n) n)

-- `left` bins are to be read, for the first n counted levels; what was read stands in `bins`, the lowest first
pub record Tracing {C : Type 0} (o : Ops C) (error : ℕ → ℕ → ℕ) (g : Ledger) (c b left n : ℕ) (bins : List Bin) : Type 0 where
  pub few : left ≤ n
  pub spare : n ≤ left + (c - b)
  pub within : n ≤ c
  pub path : (left < b) ⊎ (n ≡ c)
  pub none : left ≡ 0 → n ≡ 0
  pub read : length bins + left ≡ b
  pub bins_are : bins_to o error g b c ≡ bins_to o error g left n ++ bins

module _ {C : Type 0} (o : Ops C) (error : ℕ → ℕ → ℕ) (g : Ledger) (c b : ℕ) (few : b ≤ c) where
  -- one bin taken from the end of the list of bins
  last_bin : (m n link : ℕ) → link < n → best_division o (price o error g) (m + 1) n ≡ (n - link) ∷ best_division o (price o error g) m link →
      bins_below o error g (best_division o (price o error g) (m + 1) n) n ≡ bins_below o error g (best_division o (price o error g) m link) link ++ (level_at g (n - 1), representative o error g link (n - link)) ∷ []
  unfolding bins_below
  last_bin m n link h e =
      let back : n - (n - link) ≡ link = omega arith in
      ap (λ (ks : List ℕ). bins_below o error g ks n) e ∙ ap (λ (x : ℕ). bins_below o error g (best_division o (price o error g) m link) x ++ (level_at g (n - 1), representative o error g x (n - link)) ∷ []) back

  -- what was read, with one bin more in front
  shift : (xs row : List Bin) (left m n link : ℕ) (v : Bin) → left ≡ m + 1 → link < n →
      best_division o (price o error g) (m + 1) n ≡ (n - link) ∷ best_division o (price o error g) m link → v ≡ bin_with (level_at g (n - 1), representative o error g link (n - link)) →
      xs ≡ bins_to o error g left n ++ row → xs ≡ bins_to o error g m link ++ v ∷ row
  shift xs row left m n link v one h e is all =
      let before = bins_below o error g (best_division o (price o error g) m link) link in
      let here : ℕ × ℕ = (level_at g (n - 1), representative o error g link (n - link)) in
      all ∙ ap (λ (x : ℕ). bins_to o error g x n ++ row) one
      ∙ ap (λ (bins : List (ℕ × ℕ)). map bin_with bins ++ row) (last_bin m n link h e)
      ∙ ap (λ (ys : List Bin). ys ++ row) (map_push bin_with before here)
      ∙ append_assoc (map bin_with before) (bin_with here ∷ []) row
      ∙ ap (λ (y : Bin). map bin_with before ++ (y ∷ row)) (sym is)

  -- the first run starts at the first counted level
  first_start : (n link : ℕ) → link < n → best_division o (price o error g) 1 n ≡ (n - link) ∷ best_division o (price o error g) 0 link → link ≡ 0
  unfolding best_division
  first_start n link h e = let same : n ≡ n - link = cc in omega arith

  pub tracing_start : 0 < b → Tracing o error g c b b c []
  tracing_start pos = record {
    few = few;
    spare = omega arith;
    within = omega arith;
    path = inr refl;
    none = (λ e. absurd (omega arith));
    read = omega arith;
    bins_are = sym (append-nil _);
  }

  pub tracing_more : (left n link : ℕ) (bin : Bin) (bins : List Bin) (tally : C) → 0 < left → left ≤ b → Tracing o error g c b left n bins → Cell o (price o error g) (left - 1) n tally link →
      bin ≡ bin_with (level_at g (n - 1), representative o error g link (n - link)) → Tracing o error g c b (left - 1) link (bin ∷ bins)
  tracing_more left n link bin bins tally pos most t cell is =
      let m = left - 1 in
      let one : m + 1 ≡ left = omega arith in
      record {
        few = cell.low;
        spare = omega (arith, t.spare, cell.high);
        within = omega (arith, t.within, cell.high);
        path = inl (omega arith);
        none = (λ e. first_start n link cell.high (subst (λ (x : ℕ). best_division o (price o error g) (x + 1) n ≡ (n - link) ∷ best_division o (price o error g) x link) e cell.runs));
        read = omega (arith, t.read);
        bins_are = shift _ bins left m n link bin (sym one) cell.high cell.runs is t.bins_are;
      }

  -- the cell that the last of the bins that are left is read from
  pub tracing_cell : (left n : ℕ) (bins : List Bin) (ts : List C) (ls : List ℕ) → 0 < left → left ≤ b → Tracing o error g c b left n bins → Searched o (price o error g) c b (c + 1) (c + 1) ts ls →
      Cell o (price o error g) (left - 1) n (get_or ts ((n - 1) * b + (left - 1)) o.neutral) (get_or ls ((n - 1) * b + (left - 1)) 0)
  tracing_cell left n bins ts ls pos most t s =
      s.filled (left - 1) n (omega (arith, t.within)) (record {
        under = omega (arith, t.few);
        over = omega (arith, t.spare);
        bin = omega arith;
        last = elim t.path [ inl more ↦ inl (omega arith) | inr all ↦ inr all ];
      })

  nothing : (n : ℕ) → bins_to o error g 0 n ≡ []
  unfolding best_division bins_below
  nothing n = refl

  -- no bin is left: all are read
  pub tracing_end : (left n : ℕ) (bins : List Bin) → left ≡ 0 → Tracing o error g c b left n bins → bins ≡ bins_to o error g b c
  tracing_end left n bins none t = sym (t.bins_are ∙ ap (λ (x : ℕ). bins_to o error g x n ++ bins) none ∙ ap (λ (ys : List Bin). ys ++ bins) (nothing n))

-- The last bound set to the highest level: the table of the division.
bins_number : {C : Type 0} (o : Ops C) (error : ℕ → ℕ → ℕ) (g : Ledger) (ks : List ℕ) (n : ℕ) → length (bins_below o error g ks n) ≡ length ks
unfolding bins_below
bins_number o error g [] n = refl
bins_number o error g (k ∷ ks) n = length_push (bins_below o error g ks (n - k)) _ ∙ (let e = bins_number o error g ks (n - k) in omega arith)

-- a lawful table is made, and is the one that was asked for
pub table_made : (t : Table) (made : Option LevelTable) → MatchOption made (Lawful t → ⊥) (λ table. table_of table ≡ t) → Lawful t → IsSome made
table_made t None refused lawful = absurd (refused lawful)
table_made t (Some table) is lawful = refl

pub made_is : (t : Table) (made : Option LevelTable) (table : LevelTable) → made ≡ Some table → MatchOption made (Lawful t → ⊥) (λ table. table_of table ≡ t) → table_of table ≡ t
made_is t made table e answered = subst (λ (m : Option LevelTable). MatchOption m (Lawful t → ⊥) (λ table. table_of table ≡ t)) e answered

-- a list of bins with the last bound set
abbrev pub bound_set : List Bin → ℕ → ℕ → List Bin
bound_set bins last top = set bins last (record { bound = top; representative = (get_or bins last no_bin).representative })

-- the bin that is put at the end of a list stands there
at_end : (front : List (ℕ × ℕ)) (last : ℕ × ℕ) (n : ℕ) → length (map bin_with front) ≡ n → get_or (map bin_with front ++ bin_with last ∷ []) n no_bin ≡ bin_with last
at_end front last n long =
    let first : n - n ≡ 0 = omega arith in
    get_or-append_right (map bin_with front) _ n n no_bin long (omega arith) ∙ ap (λ (i : ℕ). get_or (bin_with last ∷ []) i no_bin) first

closed : {C : Type 0} (o : Ops C) (error : ℕ → ℕ → ℕ) (g : Ledger) (ks : List ℕ) (n b : ℕ) → length ks ≡ b → 0 < b →
    bound_set (map bin_with (bins_below o error g ks n)) (b - 1) (g.levels - 1) ≡ map bin_with (table_to o error g ks n)
unfolding bins_below table_to
closed o error g [] n b e pos = absurd (omega arith)
closed o error g (k ∷ ks) n b e pos =
    let front = bins_below o error g ks (n - k) in
    let last : ℕ × ℕ = (level_at g (n - 1), representative o error g (n - k) k) in
    let long : length (map bin_with front) ≡ b - 1 = length-map front bin_with ∙ (let m = bins_number o error g ks (n - k) in omega arith) in
    ap (λ (bins : List Bin). bound_set bins (b - 1) (g.levels - 1)) (map_push bin_with front last)
    ∙ set_at (map bin_with front) (bin_with last) [] _ (b - 1) long
    ∙ ap (λ (bin : Bin). map bin_with front ++ record { bound = g.levels - 1; representative = bin.representative } ∷ []) (at_end front last (b - 1) long)
    ∙ sym (map_push bin_with front (g.levels - 1, last.1))

-- the table of these bins is the table of the pairs that they were made of
table_with : (levels : ℕ) (bins : List (ℕ × ℕ)) → table_in levels (map bin_with bins) ≡ table_by levels bins
table_with levels bins = ap₂ (λ (bounds greys : List ℕ). given levels bounds greys) (map-map (λ bin. bin.bound) bin_with bins) (map-map (λ bin. bin.representative) bin_with bins)

-- the best division has as many bins as were asked for
pub best_number : {C : Type 0} (o : Ops C) (L : Laws o) (error : ℕ → ℕ → ℕ) (g : Ledger) (c b : ℕ) → 0 < b → b ≤ c → length (bins_to o error g b c) ≡ b
best_number o L error g c b some few =
    length-map (bins_below o error g (best_division o (price o error g) b c) c) bin_with ∙ bins_number o error g (best_division o (price o error g) b c) c ∙ (best_division_best o L (price o error g) b c few (inr some)).1

-- what was traced, and the last bound set, is the table of the best division, and keeps the rules of a table
module _ {C : Type 0} (o : Ops C) (L : Laws o) (error : ℕ → ℕ → ℕ) (g : Ledger) (S : Sound g) (c b : ℕ) (all : c ≡ counted_levels g) (some : 0 < b) (few : b ≤ c)
    (bins : List Bin) (levels : ℕ) (levels_is : levels ≡ g.levels) (bins_are : bins ≡ bins_to o error g b c) where
  pub traced_table : table_in levels (bound_set bins (b - 1) (levels - 1)) ≡ table_for o error g (best_division o (price o error g) b c)
  traced_table =
      let runs = best_division o (price o error g) b c in
      let found = best_division_best o L (price o error g) b c few (inr some) in
      ap₂ (λ (l : ℕ) (bs : List Bin). table_in l (bound_set bs (b - 1) (l - 1))) levels_is bins_are
      ∙ ap (table_in g.levels) (closed o error g runs c b found.1 some)
      ∙ table_with g.levels (table_to o error g runs c)
      ∙ ap (λ (n : ℕ). table_by g.levels (table_to o error g runs n)) all

  pub traced_lawful : b ≤ 256 → Lawful (table_in levels (bound_set bins (b - 1) (levels - 1)))
  traced_lawful small =
      let found = best_division_best o L (price o error g) b c few (inr some) in
      let divides = best_divides o (price o error g) (best_division o (price o error g) b c) c found.0 in
      let law = tables_stand o error g S (best_division o (price o error g) b c) (subst (λ (n : ℕ). Divides (best_division o (price o error g) b c) n) all divides) (omega (arith, found.1)) (omega (arith, found.1)) in
      subst Lawful (sym traced_table) law
