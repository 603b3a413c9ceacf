-- Fields of a block, laid one behind another over zeros, and read again.
use Rattle.std.proofs.Common.{◌≡◌, ◌≤◌, ◌+◌, ◌-◌, ℕ, List, [], ◌∷◌, ◌++◌, append_assoc, length, take, drop, replicate, refl, sym, ◌∙◌, ap, arith, codes}
use Rattle.std.proofs.lemmas.List.{take-append-drop, length-append, drop-drop, drop-replicate, length-take-le, length-replicate}
use Rattle.std.proofs.lemmas.Slice.{take-put_mid, drop-put_mid}
use borrow.Rule.Slice.PartMut.{put_mid}
use Rattle.byteorder.specs.Endian.{big_bytes}
use Rattle.mdv_base.specs.Bytes.{IsPadded}
use Rattle.mdv_extent.specs.declared.form.Header.{Header}
use Rattle.mdv_extent.specs.Headers.{header_text, block_of}

pub field_laid : (size used : ℕ) (block field laid : List ℕ) → IsPadded size block used → used + length field ≤ size → laid ≡ field → IsPadded size (put_mid used (used + length field - used) block laid) (used + length field)
field_laid size used block field laid padded fits same =
    let next = put_mid used (used + length field - used) block laid in
    let end = used + length field in
    let count : length laid ≡ length field = ap length same in
    let front : length (take end next) ≡ end =
    ap length (take-put_mid used (used + length field - used) block laid end (omega (arith, count)) (omega (arith, padded.whole))) ∙ length-append (take used block) laid ∙ omega (arith, count, length-take-le used block (omega (arith, padded.whole))) in
    let behind : drop end next ≡ replicate (size - end) 0 =
    drop-put_mid used (used + length field - used) block laid end (omega arith) (omega (arith, padded.whole)) (omega (arith, count))
    ∙ sym (drop-drop (length field) used block) ∙ ap (λ (l : List ℕ). drop (length field) l) padded.padding
    ∙ drop-replicate (length field) (size - used) 0 ∙ ap (λ (n : ℕ). replicate n 0) (omega arith) in
    record {
      whole = sym (ap length (take-append-drop end next)) ∙ length-append (take end next) (drop end next) ∙ omega (arith, front, ap length behind, length-replicate {A = ℕ} (size - end) 0);
      within = fits;
      padding = behind;
    }

-- fields of one length in front
pub same_fronts : (a b c d : List ℕ) → length a ≡ length b → a ++ c ≡ b ++ d → (a ≡ b) × (c ≡ d)
same_fronts [] [] c d size is = (refl, is)
same_fronts [] (y ∷ b) c d size is = absurd (omega arith)
same_fronts (x ∷ a) [] c d size is = absurd (omega arith)
same_fronts (x ∷ a) (y ∷ b) c d size is =
    let heads : x ≡ y = cc in
    let tails : a ++ c ≡ b ++ d = cc in
    let rest = same_fronts a b c d (omega arith) tails in
    (cc (heads, rest.0), rest.1)

-- the text in front of the fields is passed over
pub behind_text : (text field old rest fields : List ℕ) → length field ≡ length text → old ≡ field ++ rest → old ≡ text ++ fields → rest ≡ fields
behind_text text field old rest fields size split is = (same_fronts field text rest fields size (sym split ∙ is)).1

-- the zeros behind a text
abbrev pub tail : List ℕ → List ℕ
tail text = replicate (512 - length text) 0

pub header_parts : (h : Header) → block_of (header_text h) ≡ codes "MDVSOFT1" ++ (big_bytes 8 h.identity.fresh ++ (big_bytes 4 h.identity.number ++ (big_bytes 2 h.volume.0 ++ (h.index ∷ h.extents ∷ (big_bytes 8 h.run.at ++ (big_bytes 8 h.run.blocks ++ tail (header_text h)))))))
unfolding header_text
header_parts h = simp append_assoc
