use Rattle.std.proofs.Common.{◌≡◌, ◌∙◌, ℕ, List, ◌∷◌, ◌++◌, sym, ap, codes}
use Rattle.byteorder.specs.Endian.{big_bytes}
use Rattle.mdv_extent.specs.Headers.{header_text}
use Rattle.mdv_extent.proofs.Fields.{header_parts, behind_text, tail}
use Rattle.mdv_extent.proofs.form.fields.Goals as goal

pub returns : goal.returns
returns c = record {
  spelled = λ h form is.
      let after_text = behind_text (codes "MDVSOFT1") c.bytes-text.result.now c.args.block.now c.bytes-text.new.self _ c.bytes-text.ensures.length (sym c.new-rest.ensures ∙ c.bytes-text.ensures.spelled) (is ∙ header_parts h) in
      let fresh = c.number64-fresh.ensures.spelled h.identity.fresh _ form.fresh after_text in
      let number = c.number32-number.ensures.spelled h.identity.number _ form.number fresh.1 in
      let volume = c.number16.ensures.spelled h.volume.0 _ form.volume number.1 in
      let bytes : c.byte-index.result ∷ c.byte-extents.result ∷ c.byte-extents.new.self ≡ h.index ∷ h.extents ∷ (big_bytes 8 h.run.at ++ (big_bytes 8 h.run.blocks ++ tail (header_text h))) =
      sym (c.byte-index.ensures.spelled ∙ ap (λ (l : List ℕ). c.byte-index.result ∷ l) c.byte-extents.ensures.spelled) ∙ volume.1 in
      let index : c.byte-index.result ≡ h.index = cc (bytes) in
      let extents : c.byte-extents.result ≡ h.extents = cc (bytes) in
      let rest : c.byte-extents.new.self ≡ big_bytes 8 h.run.at ++ (big_bytes 8 h.run.blocks ++ tail (header_text h)) = cc (bytes) in
      let at = c.number64-at.ensures.spelled h.run.at _ form.at rest in
      let blocks = c.number64-blocks.ensures.spelled h.run.blocks _ form.blocks at.1 in
      λ i. record { identity = record { fresh = fresh.0 i; number = number.0 i }; volume = record { 0 = volume.0 i }; index = index i; extents = extents i; run = record { at = at.0 i; blocks = blocks.0 i } };
}
