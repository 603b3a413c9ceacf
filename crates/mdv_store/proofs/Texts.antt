-- The blocks of a body, and the bytes of its text.
use Rattle.std.proofs.Common.{◌≡◌, ℕ, suc, zero, ◌+◌, ◌*◌, ◌-◌, ◌<◌, ◌≤◌, List, [], ◌∷◌, ◌++◌, length, take, drop, refl, sym, ◌∙◌, ap, arith, length-drop, length-take, get_or}
use Rattle.std.proofs.Math.ListN.{get_or-append}
use Rattle.std.proofs.lemmas.List.{get_or-append_right}
use Rattle.std.proofs.Math.Seq.{take-add}
use Rattle.std.specs.List.{concat}
use Rattle.std.specs.Simd.{first_chunks}
use Rattle.mdv_encoding.proofs.Lengths.{length-record_text}
use Rattle.mdv_store.specs.Below.{Table, record_bytes, record_text}
use Rattle.mdv_store.specs.Text.{IsSpelled, blocks_for}

-- a body has just the blocks that its table's text takes
pub spelled_long : (table : Table) (bytes : ℕ) (body : List (List ℕ)) → IsSpelled table bytes body → length body ≡ blocks_for (record_bytes table)
spelled_long table bytes body spelled = spelled.blocks ∙ ap blocks_for spelled.counted

-- a table's text isn't empty
pub text_some : (table : Table) → 1 ≤ record_bytes table
text_some table = omega (arith, length-record_text table)

-- the first chunks of a text, one behind another, are its front
concat_chunks : (count k : ℕ) (text : List ℕ) → count ≤ k → 512 * count ≤ length text → concat (take count (first_chunks 512 k text)) ≡ take (512 * count) text
concat_chunks zero k text few fits = refl
concat_chunks (suc count) zero text few fits = absurd (omega arith)
concat_chunks (suc count) (suc k) text few fits =
    ap (λ (l : List ℕ). take 512 text ++ l) (concat_chunks count k (drop 512 text) (omega arith) (omega (arith, length-drop 512 text)))
    ∙ sym (take-add 512 (512 * count) text)
    ∙ ap (λ (n : ℕ). take n text) (omega arith)

front_of_front : (n m : ℕ) (text : List ℕ) → n ≤ m → take n (take m text) ≡ take n text
front_of_front zero m text le = refl
front_of_front (suc n) zero text le = absurd (omega arith)
front_of_front (suc n) (suc m) [] le = refl
front_of_front (suc n) (suc m) (x ∷ text) le = ap (λ (l : List ℕ). x ∷ l) (front_of_front n m text (omega arith))

-- what was cleared in the middle of a text
pub cleared : (n k : ℕ) (front zeros behind : List ℕ) → length front ≡ n → n ≤ k → k < n + length zeros → ((i : ℕ) → i < length zeros → get_or zeros i 0 ≡ 0) → get_or (front ++ (zeros ++ behind)) k 0 ≡ 0
cleared n k front zeros behind size low high are =
    get_or-append_right front (zeros ++ behind) n k 0 size low ∙ get_or-append zeros behind 0 (k - n) (omega arith) ∙ are (k - n) (omega arith)

-- the blocks that a text takes up
module _ (table : Table) (bytes k : ℕ) (text : List ℕ) (whole : length text ≡ 512 * k) (some : 1 ≤ k) where
  pub few_blocks : bytes ≤ 512 * k → blocks_for bytes ≤ k
  few_blocks fits = omega arith

  pub spelled_is : (count : ℕ) (blocks : List (List ℕ)) → count ≡ blocks_for bytes → blocks ≡ first_chunks 512 k text → length blocks ≡ k → bytes ≡ record_bytes table → take bytes text ≡ record_text table → record_bytes table ≤ 512 * k
      → IsSpelled table bytes (take count blocks)
  spelled_is count blocks count_is are size counted spelled fits =
      let few = few_blocks (omega arith) in
      let front = concat_chunks count k text (omega arith) (omega arith) in
      let joined : concat (take count blocks) ≡ take (512 * count) text = ap (λ (b : List (List ℕ)). concat (take count b)) are ∙ front in
      record {
        counted = counted;
        blocks = omega (arith, length-take count blocks);
        in_body = omega (arith, ap length joined, length-take (512 * count) text);
        text = ap (take bytes) joined ∙ front_of_front bytes (512 * count) text (omega arith) ∙ spelled;
      }
