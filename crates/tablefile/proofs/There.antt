-- What is absent only where a rule is broken is there where the rule is kept.
use Rattle.std.proofs.Common.{Some, None, Option, rules}
use Rattle.std.specs.Option.{IsSome, MatchOption}

pub given_there : {X : Type 0} (Rule : Type 0) (Gives : X → Type 0) (o : Option X) → MatchOption o (Rule → ⊥) Gives → Rule → IsSome o
given_there Rule Gives None absent kept = absurd (absent kept)
given_there Rule Gives (Some x) gives kept = search rules
