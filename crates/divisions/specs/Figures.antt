-- The two figures of a drawing of c counted levels into b bins: how many runs are candidates for a bin, and how many path steps there are.
use Rattle.std.specs.Prelude.{◌≡◌, ℕ, ◌+◌, ◌-◌, ◌*◌, ◌/◌, Bool, cond, ◌&&◌, ◌||◌, List, ◌∷◌, ◌++◌, length, sum_by, count_by, ◌==◌, nat_le, nat_lt}
use Rattle.std.specs.List.{range_with_len}
use Rattle.counting.specs.Ledger.{Ledger, counted_levels}
use Rattle.divisions.specs.Divisions.{Divides, bins_of}

-- the most levels that one of b runs of c levels can have
abbrev pub longest : ℕ → ℕ → ℕ
longest c b = c - b + 1

-- a candidate bin: a run, the d levels from place i, that is not longer than that
abbrev pub candidate : ℕ → ℕ → ℕ → ℕ → Bool
candidate c b i d = nat_le d (longest c b) && nat_le (i + d) c

-- the number of candidate bins, over every length from 1 to c and every place below c
abbrev pub candidates : ℕ → ℕ → ℕ
candidates c b = sum_by (λ d. count_by (λ i. candidate c b i d) (range_with_len 0 c)) (range_with_len 1 c)

-- A path step is a run together with a bin number that it has in some division of c levels into b runs:
-- m runs stand before it, which hold the i levels below it, and the others come after it.
pub record PathStep (c b i d m : ℕ) : Type 0 where
  pub after : List ℕ
  pub before : List ℕ
  pub divides : Divides (after ++ d ∷ before) c
  pub number : length (after ++ d ∷ before) ≡ b
  pub start : Divides before i
  pub bin : length before ≡ m

-- whether n levels can be cut into q runs
abbrev pub can_cut : ℕ → ℕ → Bool
can_cut q n = nat_le q n && (nat_lt 0 q || n == 0)

-- whether a run and a bin number are a path step: the levels below it can be cut into m runs, and those above it into the other runs
abbrev pub path_step : ℕ → ℕ → ℕ → ℕ → ℕ → Bool
path_step c b i d m = nat_lt 0 d && nat_le (i + d) c && nat_lt m b && can_cut m i && can_cut (b - 1 - m) (c - (i + d))

-- the number of path steps, over every bin number below b, every length from 1 to c and every place below c
abbrev pub path_steps : ℕ → ℕ → ℕ
path_steps c b = sum_by (λ m. sum_by (λ d. count_by (λ i. path_step c b i d m) (range_with_len 0 c)) (range_with_len 1 c)) (range_with_len 0 b)

-- The figures in closed form, for 1 to c bins.
abbrev pub priced_figure : ℕ → ℕ → ℕ
priced_figure c b = (c * c + c - b * b + b) / 2

abbrev pub compared_figure : ℕ → ℕ → ℕ
compared_figure c b = cond (b == 1) 1 ((b - 2) * longest c b * (longest c b + 1) / 2 + 2 * longest c b)

-- The figures of drawing at most `most` bins of a ledger: the candidate bins, which are priced, and the path steps, which are compared.
abbrev pub priced_of : Ledger → ℕ → ℕ
priced_of g most = candidates (counted_levels g) (bins_of g most)

abbrev pub compared_of : Ledger → ℕ → ℕ
compared_of g most = path_steps (counted_levels g) (bins_of g most)
