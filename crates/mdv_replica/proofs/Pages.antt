-- Fields laid one behind another over zeros.
use Rattle.std.proofs.Common.{◌≡◌, ◌≤◌, ◌+◌, ◌-◌, ℕ, List, [], ◌∷◌, ◌++◌, refl, append_assoc, length, take, drop, replicate, sym, ◌∙◌, ap, arith}
use Rattle.std.proofs.lemmas.List.{take-append-drop, length-append, drop-drop, drop-replicate, length-take-le, length-replicate}
use Rattle.std.proofs.lemmas.Slice.{take-put_mid, drop-put_mid}
use borrow.Rule.Slice.PartMut.{put_mid}
use Rattle.mdv_base.specs.Bytes.{IsPadded, padded_to}

pub field_laid : (size used : ℕ) (block field laid : List ℕ) → IsPadded size block used → used + length field ≤ size → laid ≡ field → IsPadded size (put_mid used (used + length field - used) block laid) (used + length field)
field_laid size used block field laid padded fits same =
    let next = put_mid used (used + length field - used) block laid in
    let end = used + length field in
    let count : length laid ≡ length field = ap length same in
    let front : length (take end next) ≡ end =
    ap length (take-put_mid used (used + length field - used) block laid end (omega (arith, count)) (omega (arith, padded.whole))) ∙ length-append (take used block) laid ∙ omega (arith, count, length-take-le used block (omega (arith, padded.whole))) in
    let behind : drop end next ≡ replicate (size - end) 0 =
    drop-put_mid used (used + length field - used) block laid end (omega arith) (omega (arith, padded.whole)) (omega (arith, count))
    ∙ sym (drop-drop (length field) used block) ∙ ap (λ (l : List ℕ). drop (length field) l) padded.padding
    ∙ drop-replicate (length field) (size - used) 0 ∙ ap (λ (n : ℕ). replicate n 0) (omega arith) in
    record {
      whole = sym (ap length (take-append-drop end next)) ∙ length-append (take end next) (drop end next) ∙ omega (arith, front, ap length behind, length-replicate {A = ℕ} (size - end) 0);
      within = fits;
      padding = behind;
    }

-- fields of one length in front
pub same_fronts : (a b c d : List ℕ) → length a ≡ length b → a ++ c ≡ b ++ d → (a ≡ b) × (c ≡ d)
same_fronts [] [] c d size is = (refl, is)
same_fronts [] (y ∷ b) c d size is = absurd (omega arith)
same_fronts (x ∷ a) [] c d size is = absurd (omega arith)
same_fronts (x ∷ a) (y ∷ b) c d size is =
    let heads : x ≡ y = cc in
    let tails : a ++ c ≡ b ++ d = cc in
    let rest = same_fronts a b c d (omega arith) tails in
    (cc (heads, rest.0), rest.1)

-- a text over zeros is padded
pub padded_over : (size : ℕ) (text : List ℕ) → text ++ drop (length text) (replicate size 0) ≡ padded_to size text
padded_over size text = ap (λ (l : List ℕ). text ++ l) (drop-replicate (length text) size 0)

pub length-padded_to : (size : ℕ) (text : List ℕ) → length text ≤ size → length (padded_to size text) ≡ size
length-padded_to size text short = length-append text (replicate (size - length text) 0) ∙ omega (arith, length-replicate {A = ℕ} (size - length text) 0)

pub name_spelled : (page second third text name copied : List ℕ) (kind : ℕ) → text ≡ name → length name ≤ 32 → copied ≡ text → second ≡ page ++ kind ∷ length text ∷ [] → third ≡ second ++ (copied ++ drop (length text) (replicate 32 0)) → (third ≡ page ++ kind ∷ length name ∷ padded_to 32 name) × (length third ≡ length page + 34)
name_spelled page second third text name copied kind is short copies laid then =
    let field : copied ++ drop (length text) (replicate 32 0) ≡ padded_to 32 name =
    ap (λ (l : List ℕ). l ++ drop (length text) (replicate 32 0)) copies ∙ padded_over 32 text ∙ ap (padded_to 32) is in
    let head : second ≡ page ++ kind ∷ length name ∷ [] = laid ∙ ap (λ (l : List ℕ). page ++ kind ∷ length l ∷ []) is in
    let whole : third ≡ page ++ kind ∷ length name ∷ padded_to 32 name =
    then ∙ ap (λ (l : List ℕ). second ++ l) field ∙ ap (λ (l : List ℕ). l ++ padded_to 32 name) head ∙ append_assoc page (kind ∷ length name ∷ []) (padded_to 32 name) in
    (whole, ap length whole ∙ length-append page (kind ∷ length name ∷ padded_to 32 name) ∙ omega (arith, length-padded_to 32 name short))
