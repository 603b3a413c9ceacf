use Rattle.std.proofs.Common.{◌≡◌, ◌∙◌, ◌∷◌, ◌++◌, sym, Some, codes, arith}
use Rattle.byteorder.specs.Endian.{big_bytes}
use Rattle.mdv_replica.specs.Forms.{gate_text, block_of, IsGate}
use Rattle.mdv_replica.specs.declared.forms.Gate.{Gate}
use Rattle.mdv_replica.specs.declared.forms.Gate.TheVariants.{Closed, Open}
use Rattle.mdv_replica.proofs.Parts.{gate_closed_parts, gate_open_parts, behind_text, tail}
use Rattle.mdv_replica.proofs.reading.gate_fields.Goals as goal

pub returns-clause-spelled : goal.returns-clause-spelled
returns-clause-spelled c = λ g.
    elim g as (λ (x : Gate). IsGate x → c.args.block.now ≡ block_of (gate_text x) → c.gate_of.result ≡ Some x) [
      | Closed ↦ λ fits is.
          let after_text = behind_text (codes "MDVGATE1") c.bytes-text.result.now c.args.block.now c.bytes-text.new.self _ c.bytes-text.ensures.length (sym c.new-rest.ensures ∙ c.bytes-text.ensures.spelled) (is ∙ gate_closed_parts) in
          let state : c.byte-state.result ∷ c.byte-state.new.self ≡ 0 ∷ (big_bytes 8 0 ++ (big_bytes 8 0 ++ (big_bytes 4 0 ++ tail (gate_text Closed)))) = sym c.byte-state.ensures.spelled ∙ after_text in
          c.gate_of.ensures.closed (cc (state))
      | Open mark bytes ↦ λ fits is.
          let after_text = behind_text (codes "MDVGATE1") c.bytes-text.result.now c.args.block.now c.bytes-text.new.self _ c.bytes-text.ensures.length (sym c.new-rest.ensures ∙ c.bytes-text.ensures.spelled) (is ∙ gate_open_parts mark bytes) in
          let state : c.byte-state.result ∷ c.byte-state.new.self ≡ 1 ∷ (big_bytes 8 mark.boot ++ (big_bytes 8 mark.count ++ (big_bytes 4 bytes ++ tail (gate_text (Open mark bytes))))) = sym c.byte-state.ensures.spelled ∙ after_text in
          let one : c.byte-state.result ≡ 1 = cc (state) in
          let rest : c.byte-state.new.self ≡ big_bytes 8 mark.boot ++ (big_bytes 8 mark.count ++ (big_bytes 4 bytes ++ tail (gate_text (Open mark bytes)))) = cc (state) in
          let boot = c.number64-boot.ensures.spelled mark.boot _ (omega (arith, fits.0.boot)) rest in
          let count = c.number64-count.ensures.spelled mark.count _ (omega (arith, fits.0.count)) boot.1 in
          let length = c.number32-bytes.ensures.spelled bytes _ fits.1 count.1 in
          c.gate_of.ensures.open one (omega (arith, fits.0.boot, boot.0)) (omega (arith, fits.0.count, count.0))
          ∙ (λ i. Some (Open (record { boot = boot.0 i; count = count.0 i }) (length.0 i)))
    ]
