-- Where the first word of a line begins and ends.
use Rattle.std.proofs.Common.{◌≡◌, ◌<◌, ◌+◌, ℕ, suc, Bool, true, false, cond, not, refl, sym, ◌∙◌, ap, List, [], ◌∷◌, ◌++◌, length, take, drop, arith, ◌==◌}
use Rattle.std.proofs.lemmas.List.{take-append-drop, length-take-le}
use Rattle.std.proofs.lemmas.List.Sums.{prefix_len-le-length}
use Rattle.std.proofs.lemmas.Bool.Decides.{nat_tests}
use Rattle.std.specs.List.{prefix_len}
use Rattle.mdv_text.specs.Words.{is_blank, is_word_byte, begins_with_word, lengthened, words, IsFirstWord}

one-add : (n : ℕ) → 1 + n ≡ suc n
one-add n = omega arith

-- blanks in front count for nothing
pub words-drop_blanks : (t : List ℕ) → words (drop (prefix_len is_blank t) t) ≡ words t
words-drop_blanks [] = refl
words-drop_blanks (b ∷ bs) =
    let P : Bool → Type 0 = λ v. is_blank b ≡ v → words (drop (cond v (1 + prefix_len is_blank bs) 0) (b ∷ bs)) ≡ words (b ∷ bs) in
    (elim (is_blank b) as P [ true ↦ λ is. rw (one-add (prefix_len is_blank bs), is) (words-drop_blanks bs) | false ↦ λ is. refl ]) refl

-- what follows blanks begins with a word
pub begins-drop_blanks : (t : List ℕ) → 0 < length (drop (prefix_len is_blank t) t) → begins_with_word (drop (prefix_len is_blank t) t) ≡ true
begins-drop_blanks [] = λ some. absurd (omega arith)
begins-drop_blanks (b ∷ bs) =
    let k = prefix_len is_blank bs in
    let P : Bool → Type 0 = λ v. is_blank b ≡ v → 0 < length (drop (cond v (1 + k) 0) (b ∷ bs)) → begins_with_word (drop (cond v (1 + k) 0) (b ∷ bs)) ≡ true in
    (elim (is_blank b) as P [ true ↦ λ is. rw (one-add k) (begins-drop_blanks bs) | false ↦ λ is some. ap not is ]) refl

pub prefix_len-word : (t : List ℕ) → begins_with_word t ≡ true → 0 < prefix_len is_word_byte t
prefix_len-word [] begins = cc
prefix_len-word (b ∷ bs) begins = rw begins (omega arith)

not_true : (v : Bool) → not v ≡ true → v ≡ false
not_true true is = sym is
not_true false is = refl

prefix_len-no_word : (t : List ℕ) → begins_with_word t ≡ false → prefix_len is_word_byte t ≡ 0
prefix_len-no_word [] begins = refl
prefix_len-no_word (b ∷ bs) begins = rw begins

-- the word goes on as long as no blank comes
pub words-word : (t : List ℕ) → begins_with_word t ≡ true → words t ≡ take (prefix_len is_word_byte t) t ∷ words (drop (prefix_len is_word_byte t) t)
words-word [] = λ begins. cc
words-word (b ∷ bs) = λ begins.
    let k = prefix_len is_word_byte bs in
    let next : begins_with_word bs ≡ true → words bs ≡ take k bs ∷ words (drop k bs) = words-word bs in
    let solid : is_blank b ≡ false = not_true (is_blank b) begins in
    let P : Bool → Type 0 = λ v. begins_with_word bs ≡ v → cond v (lengthened b (words bs)) ((b ∷ []) ∷ words bs) ≡ (b ∷ take k bs) ∷ words (drop k bs) in
    let here : cond (begins_with_word bs) (lengthened b (words bs)) ((b ∷ []) ∷ words bs) ≡ (b ∷ take k bs) ∷ words (drop k bs) =
    (elim (begins_with_word bs) as P [ true ↦ λ on. ap (lengthened b) (next on) | false ↦ λ on. let none : k ≡ 0 = prefix_len-no_word bs on in rw none ]) refl in
    rw (solid, one-add k) here

nil_from_length : (xs : List ℕ) → length xs ≡ 0 → xs ≡ []
nil_from_length [] none = refl
nil_from_length (x ∷ xs) none = absurd (omega arith)

nonzero : (xs : List ℕ) (empty : Bool) → empty ≡ (length xs == 0) → empty ≡ false → 0 < length xs
nonzero xs empty test refused = grind (arith, nat_tests)

pub no_word : (t : List ℕ) (i : ℕ) (from : List ℕ) (empty : Bool) → i ≡ prefix_len is_blank t → from ≡ drop i t → empty ≡ (length from == 0) → empty ≡ true → words t ≡ []
no_word t i from empty blanks rest test accepted =
    let none : length from ≡ 0 = grind (arith, nat_tests) in
    let gone : drop (prefix_len is_blank t) t ≡ [] = ap (λ (k : ℕ). drop k t) (sym blanks) ∙ sym rest ∙ nil_from_length from none in
    sym (words-drop_blanks t) ∙ ap words gone

pub first_word_made :
    (t : List ℕ) (i k : ℕ) (from word rest : List ℕ) (empty : Bool) →
    i ≡ prefix_len is_blank t → from ≡ drop i t → empty ≡ (length from == 0) → empty ≡ false →
    k ≡ prefix_len is_word_byte from → word ≡ take k from → rest ≡ drop k from → IsFirstWord t word rest
first_word_made t i k from word rest empty blanks behind test refused count front back =
    let same : from ≡ drop (prefix_len is_blank t) t = behind ∙ ap (λ (n : ℕ). drop n t) blanks in
    let some : 0 < length from = nonzero from empty test refused in
    let begins : begins_with_word from ≡ true = ap begins_with_word same ∙ begins-drop_blanks t (omega (arith, some, ap length same)) in
    let word_is : word ≡ take (prefix_len is_word_byte from) from = front ∙ ap (λ (n : ℕ). take n from) count in
    let rest_is : rest ≡ drop (prefix_len is_word_byte from) from = back ∙ ap (λ (n : ℕ). drop n from) count in
    let long : 0 < prefix_len is_word_byte from = prefix_len-word from begins in
    record {
      words = sym (words-drop_blanks t) ∙ ap words (sym same) ∙ words-word from begins ∙ ap (λ (w : List ℕ). w ∷ words (drop (prefix_len is_word_byte from) from)) (sym word_is) ∙ ap (λ (r : List ℕ). word ∷ words r) (sym rest_is);
      front = take i t;
      place = sym (take-append-drop i t) ∙ ap (λ (r : List ℕ). take i t ++ r) (sym behind ∙ sym (take-append-drop k from) ∙ ap (λ (w : List ℕ). w ++ drop k from) (sym front) ∙ ap (λ (r : List ℕ). word ++ r) (sym back));
      some = omega (arith, long, ap length word_is, length-take-le (prefix_len is_word_byte from) from (prefix_len-le-length is_word_byte from));
    }
