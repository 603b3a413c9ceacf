-- How the header of an extent is spelled. Bytes of the block that no field has are zero.
use Rattle.std.specs.Prelude.{◌<◌, ◌^◌, ℕ, List, [], ◌∷◌, ◌++◌, codes}
use Rattle.byteorder.specs.Endian.{big_bytes}
use Rattle.mdv_base.specs.Bytes.{padded_to}
use Rattle.mdv_extent.specs.declared.form.Header.{Header}

unfoldable pub header_text : Header → List ℕ
header_text h =
    codes "MDVSOFT1" ++ big_bytes 8 h.identity.fresh ++ big_bytes 4 h.identity.number ++ big_bytes 2 h.volume.0 ++ h.index ∷ [] ++ h.extents ∷ []
    ++ big_bytes 8 h.run.at ++ big_bytes 8 h.run.blocks

abbrev pub block_of : List ℕ → List ℕ
block_of text = padded_to 512 text

-- what a header can say: each number fits its field
pub record IsHeader (h : Header) : Type 0 where
  pub fresh : h.identity.fresh < 2 ^ 64
  pub number : h.identity.number < 2 ^ 32
  pub volume : h.volume.0 < 2 ^ 16
  pub index : h.index < 256
  pub extents : h.extents < 256
  pub at : h.run.at < 2 ^ 64
  pub blocks : h.run.blocks < 2 ^ 64
