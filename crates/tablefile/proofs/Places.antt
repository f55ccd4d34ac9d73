-- Reading numbers and entries off what is left of a file at a place, and numbers from the bytes that are taken there.
use Rattle.std.proofs.Common.{◌≡◌, ℕ, zero, suc, ◌+◌, ◌*◌, ◌/◌, ◌%◌, ◌<◌, ◌≤◌, List, ◌∷◌, ◌++◌, length, get_or, take, drop, sym, ap, ◌∙◌, ap₂, append_assoc, add-one, arith}
use Rattle.std.specs.List.{flat_map}
use Rattle.std.proofs.lemmas.List.{get_or-take, get_or-drop, drop-drop, drop_more, drop_at, length-drop}
use Rattle.tablefile.specs.Numbers.{word, long, word_at, long_at}

module _ (file : List ℕ) where
  -- the byte at a place, and what is left after it
  read_byte : (p b : ℕ) (rest : List ℕ) → drop p file ≡ b ∷ rest → (get_or file p 0 ≡ b) × (drop (p + 1) file ≡ rest) × (p + 1 ≤ length file)
  read_byte p b rest e =
      let here : p + 0 ≡ p = omega arith in
      let long_left = ap length e in
      let left = length-drop p file in (
        sym (ap (λ (k : ℕ). get_or file k 0) here) ∙ sym (get_or-drop p file 0 0) ∙ ap (λ (xs : List ℕ). get_or xs 0 0) e,
        sym (drop-drop 1 p file) ∙ ap (drop 1) e,
        omega arith,
      )

  pub read_word : (p n : ℕ) (rest : List ℕ) → drop p file ≡ word n ++ rest → (word_at file p ≡ n) × (drop (p + 2) file ≡ rest) × (p + 2 ≤ length file)
  read_word p n rest e =
      let a = read_byte p (n / 256) _ e in
      let b = read_byte (p + 1) (n % 256) rest a.1 in
      let next : p + 2 ≡ p + 1 + 1 = omega arith in
      let high = a.0 in
      let low = b.0 in (omega arith, ap (λ (k : ℕ). drop k file) next ∙ b.1, omega (arith, b.2))

  pub read_long : (p n : ℕ) (rest : List ℕ) → drop p file ≡ long n ++ rest → (long_at file p ≡ n) × (drop (p + 4) file ≡ rest) × (p + 4 ≤ length file)
  read_long p n rest e =
      let a = read_byte p (n / 16777216) _ e in
      let b = read_byte (p + 1) (n / 65536 % 256) _ a.1 in
      let p2 : p + 2 ≡ p + 1 + 1 = omega arith in
      let c = read_byte (p + 2) (n / 256 % 256) _ (ap (λ (k : ℕ). drop k file) p2 ∙ b.1) in
      let p3 : p + 3 ≡ p + 2 + 1 = omega arith in
      let d = read_byte (p + 3) (n % 256) rest (ap (λ (k : ℕ). drop k file) p3 ∙ c.1) in
      let p4 : p + 4 ≡ p + 3 + 1 = omega arith in
      let b3 = a.0 in let b2 = b.0 in let b1 = c.0 in let b0 = d.0 in
      (omega arith, ap (λ (k : ℕ). drop k file) p4 ∙ d.1, omega (arith, d.2))

  -- entries of one size, one after the other
  module _ (entry : ℕ → List ℕ) (size : ℕ) (sized : (x : ℕ) → length (entry x) ≡ size) (at : ℕ → ℕ) (step : (i : ℕ) → at (suc i) ≡ at i + size)
      (xs rest : List ℕ) (start : drop (at 0) file ≡ flat_map entry xs ++ rest) where
    first_entry : (i : ℕ) → i < length xs → drop (at i) file ≡ flat_map entry (drop i xs) ++ rest → drop (at i) file ≡ entry (get_or xs i 0) ++ (flat_map entry (drop (suc i) xs) ++ rest)
    first_entry i h left =
        let x = get_or xs i 0 in
        let here : drop i xs ≡ x ∷ drop (suc i) xs = drop_more xs i 0 h ∙ ap (λ (k : ℕ). x ∷ drop k xs) (add-one i) in
        left ∙ ap (λ (ys : List ℕ). flat_map entry ys ++ rest) here ∙ append_assoc (entry x) (flat_map entry (drop (suc i) xs)) rest

    pub read_entries : (i : ℕ) → i ≤ length xs → drop (at i) file ≡ flat_map entry (drop i xs) ++ rest
    read_entries zero h = start
    read_entries (suc i) h =
        let x = get_or xs i 0 in
        ap (λ (k : ℕ). drop k file) (step i) ∙ sym (drop-drop size (at i) file) ∙ ap (drop size) (first_entry i (omega arith) (read_entries i (omega arith))) ∙ drop_at (entry x) _ size (sized x)

    pub read_entry : (i : ℕ) → i < length xs → drop (at i) file ≡ entry (get_or xs i 0) ++ (flat_map entry (drop (suc i) xs) ++ rest)
    read_entry i h = first_entry i h (read_entries i (omega arith))

-- the numbers of which the bytes are taken, at a place of the file as it is then
module _ (file : List ℕ) (place : ℕ) (then : List ℕ) (at : ℕ) (bytes : List ℕ) (same : then ≡ file) (here : at ≡ place) where
  pub byte_taken : (size k : ℕ) → bytes ≡ take size (drop at then) → k < size → get_or bytes k 0 ≡ get_or file (place + k) 0
  byte_taken size k taken h =
      ap (λ (xs : List ℕ). get_or xs k 0) taken ∙ get_or-take size (drop at then) k 0 h ∙ get_or-drop at then k 0 ∙ ap₂ (λ (xs : List ℕ) (p : ℕ). get_or xs (p + k) 0) same here

  pub word_taken : bytes ≡ take 2 (drop at then) → get_or bytes 0 0 * 256 + get_or bytes 1 0 ≡ word_at file place
  word_taken taken =
      let high = byte_taken 2 0 taken (omega arith) in
      let low = byte_taken 2 1 taken (omega arith) in
      let first : get_or file (place + 0) 0 ≡ get_or file place 0 = ap (λ (p : ℕ). get_or file p 0) (omega arith) in omega arith

  pub long_taken : bytes ≡ take 4 (drop at then) → get_or bytes 0 0 * 16777216 + get_or bytes 1 0 * 65536 + get_or bytes 2 0 * 256 + get_or bytes 3 0 ≡ long_at file place
  long_taken taken =
      let a = byte_taken 4 0 taken (omega arith) in
      let b = byte_taken 4 1 taken (omega arith) in
      let c = byte_taken 4 2 taken (omega arith) in
      let d = byte_taken 4 3 taken (omega arith) in
      let first : get_or file (place + 0) 0 ≡ get_or file place 0 = ap (λ (p : ℕ). get_or file p 0) (omega arith) in omega arith
