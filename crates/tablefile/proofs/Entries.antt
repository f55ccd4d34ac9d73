-- How far the entries of a section are read.
use Rattle.std.proofs.Common.{◌≡◌, ℕ, zero, suc, ◌+◌, ◌<◌, ◌≤◌, true, ltb, leb, List, length, take, set, None, refl, ap, ◌∙◌, add-one, arith, length-set}
use Rattle.std.proofs.lemmas.Bool.{and_parts, leb-true, ltb-true}
use Rattle.std.proofs.lemmas.List.{length-take-le}
use Rattle.counting.specs.Sound.{Sound, of_pixels}
use Rattle.tablefile.specs.Fields.{level_place, level_in, pixels_in}
use Rattle.tablefile.specs.Faults.{first_of, part_fault, level_rule, level_fault, least_next, pixels_before}
use Rattle.tablefile.specs.Numbers.{word_at, long_at}
use Rattle.tablefile.specs.Parts.{ReadOn, pixels_upto}
use Rattle.tablefile.specs.declared.body.Body.{Body}
use Rattle.tablefile.proofs.Faults.{first_of_more, first_of_none, part_none}
use Rattle.tablefile.proofs.Levels.{Entry, upto_wide, laid_sum}

-- entries 0 to i - 1 of section 1 are read, and none has a fault
pub record LevelsUpto (file : List ℕ) (levels : ℕ) (pixels : List ℕ) (least total i : ℕ) (body : Body) : Type 0 where
  pub fine : first_of (level_fault file levels) i ≡ None
  pub so_far : pixels ≡ pixels_upto file i
  pub rises : least ≡ least_next (level_in file) i
  pub counts : total ≡ pixels_before file i
  pub wide : length pixels ≡ 1024
  pub file_is : body.file.now ≡ file
  pub levels_are : body.levels ≡ levels
  pub reach : body.place ≡ level_place i

pub no_levels : (file : List ℕ) (levels : ℕ) (pixels : List ℕ) (body : Body) → pixels ≡ pixels_upto file 0 → length pixels ≡ 1024 →
    body.file.now ≡ file → body.levels ≡ levels → body.place ≡ 5 → LevelsUpto file levels pixels 0 0 0 body
unfolding first_of
no_levels file levels pixels body e long same levels_are at =
    record { fine = refl; so_far = e; rises = refl; counts = refl; wide = long; file_is = same; levels_are = levels_are; reach = omega arith }

module _ (file : List ℕ) (levels : ℕ) (pixels : List ℕ) (least total i : ℕ) (body : Body) (u : LevelsUpto file levels pixels least total i body) where
  -- the fault of the next entry
  pub level_next :
      part_fault body.file.now 1 body.place 6 (level_rule body.levels least total (word_at body.file.now body.place) (long_at body.file.now (body.place + 2))) ≡ level_fault file levels i
  level_next = let a = u.rises in let b = u.counts in let c = u.file_is in let d = u.levels_are in let e = u.reach in cc

  pub levels_more : (then : Body) (level count : ℕ) → level_fault file levels i ≡ None →
      level ≡ word_at body.file.now body.place → count ≡ long_at body.file.now (body.place + 2) → ReadOn body (body.place + 6) then →
      LevelsUpto file levels (set pixels level count) (level + 1) (total + count) (i + 1) then
  unfolding pixels_upto
  levels_more then level count none level_is count_is on =
      let a = u.so_far in
      let b = u.counts in
      let c = u.file_is in
      let d = u.reach in
      let level_at : level ≡ level_in file i = cc in
      let count_at : count ≡ pixels_in file i = cc in
      record {
        fine = first_of_more (level_fault file levels) i u.fine none;
        so_far = rw (add-one i) (cc);
        rises = rw (add-one i) (ap (λ (n : ℕ). n + 1) level_at);
        counts = rw (add-one i) (cc);
        wide = length-set pixels level count ∙ u.wide;
        file_is = on.0 ∙ c;
        levels_are = on.1 ∙ u.levels_are;
        reach = omega (arith, on.2);
      }

-- a level's rule, part by part
pub level_rules : (levels least before level pixels : ℕ) → level_rule levels least before level pixels ≡ true →
    (least ≤ level) × (level < levels) × (0 < pixels) × (before + pixels ≤ 4294967295)
level_rules levels least before level pixels e =
    let a = and_parts (leb least level) _ e in
    let b = and_parts (ltb level levels) _ a.1 in
    let d = and_parts (ltb 0 pixels) _ b.1 in
    (leb-true _ _ a.0, ltb-true _ _ b.0, ltb-true _ _ d.0, leb-true _ _ d.1)

-- entries of section 1 without a fault
module _ (file : List ℕ) (levels n : ℕ) (none : first_of (level_fault file levels) n ≡ None) where
  level_part : (i : ℕ) → i < n → (level_place i + 6 ≤ length file) × (level_rule levels (least_next (level_in file) i) (pixels_before file i) (level_in file i) (pixels_in file i) ≡ true)
  level_part i h = part_none file 1 (level_place i) 6 _ (first_of_none (level_fault file levels) n i none h)

  rules_at : (i : ℕ) → i < n → (least_next (level_in file) i ≤ level_in file i) × (level_in file i < levels) × (0 < pixels_in file i) × (pixels_before file i + pixels_in file i ≤ 4294967295)
  rules_at i h = level_rules levels (least_next (level_in file) i) (pixels_before file i) (level_in file i) (pixels_in file i) (level_part i h).1

  pub entries : (i : ℕ) → i < n → Entry file levels i
  entries i h = let r = rules_at i h in record { rises = r.0; level = r.1; pixels = r.2 }

  pub entry_reach : (i : ℕ) → i < n → level_place i + 6 ≤ length file
  entry_reach i h = (level_part i h).0

  pub before_fits : (i : ℕ) → i ≤ n → pixels_before file i ≤ 4294967295
  before_fits zero h = omega arith
  before_fits (suc i) h = (rules_at i (omega arith)).3

  -- what they lay down is lawful
  module _ (range : (2 ≤ levels) × (levels ≤ 1024)) where
    abbrev made : List ℕ
    made = take levels (pixels_upto file n)

    made_long : length made ≡ levels
    made_long = let wide = upto_wide file levels n range.1 entries n in length-take-le levels (pixels_upto file n) (omega (arith, range))

    pub made_lawful : Sound (of_pixels made)
    made_lawful = record {
      range = rw made_long range;
      width = refl;
      fits = (let part = laid_sum file levels n range.1 entries in let all = before_fits n (omega arith) in omega arith);
    }

    pub made_ledger : of_pixels made ≡ record { levels = levels; at = made }
    made_ledger = ap (λ (k : ℕ). record { levels = k; at = made }) made_long
