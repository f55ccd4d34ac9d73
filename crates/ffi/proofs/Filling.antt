-- What the cells of a filled output hold, said in weaker words.
use Rattle.std.proofs.Common.{ℕ, List}
use Rattle.ffi.specs.Scans.{FilledBy}

pub filled_weaker : {X : Type 0} {gives says : ℕ → X → Type 0} {most : ℕ} {before then : List X} → ((k : ℕ) (x : X) → gives k x → says k x) → FilledBy gives most before then → FilledBy says most before then
filled_weaker weaker h = record { cells = λ none k below room. weaker k _ (h.cells none k below room); rest = h.rest }
