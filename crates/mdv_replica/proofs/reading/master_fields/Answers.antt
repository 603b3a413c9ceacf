use Rattle.std.proofs.Common.{◌≡◌, ◌∙◌, ℕ, List, ◌∷◌, sym, ap, Some, codes}
use Rattle.mdv_replica.specs.Forms.{master_text}
use Rattle.mdv_replica.proofs.Parts.{master_parts, behind_text, slice_read, tail}
use Rattle.mdv_replica.proofs.reading.master_fields.Goals as goal

pub returns-in_err-key-clause-spelled : goal.returns-in_err-key-clause-spelled
returns-in_err-key-clause-spelled c = λ m form is.
    let after_text = behind_text (codes "MDVREPL1") c.bytes-text.result.now c.args.block.now c.bytes-text.new.self _ c.bytes-text.ensures.length (sym c.new-rest.ensures ∙ c.bytes-text.ensures.spelled) (is ∙ master_parts m) in
    let fresh = c.number64-fresh.ensures.spelled m.identity.fresh _ form.fresh after_text in
    let number = c.number32-number.ensures.spelled m.identity.number _ form.number fresh.1 in
    let key = c.in_err-key.ensures.spelled m.key _ form.name number.1 in
    absurd (cc (key.0))

pub returns-clause-spelled : goal.returns-clause-spelled
returns-clause-spelled c = λ m form is.
    let after_text = behind_text (codes "MDVREPL1") c.bytes-text.result.now c.args.block.now c.bytes-text.new.self _ c.bytes-text.ensures.length (sym c.new-rest.ensures ∙ c.bytes-text.ensures.spelled) (is ∙ master_parts m) in
    let fresh = c.number64-fresh.ensures.spelled m.identity.fresh _ form.fresh after_text in
    let number = c.number32-number.ensures.spelled m.identity.number _ form.number fresh.1 in
    let key = c.in_ok-key.ensures.spelled m.key _ form.name number.1 in
    let slice = slice_read c.read_slice-slice.result m.slice c.read_slice-slice.new.rest _ (sym c.read_slice-slice.ensures.spelled ∙ key.1) in
    let start = c.number32-start.ensures.spelled m.start _ form.start slice.1 in
    let blocks = c.number32-blocks.ensures.spelled m.blocks _ form.blocks start.1 in
    let ends : c.byte-index.result ∷ c.byte-count.result ∷ c.byte-count.new.self ≡ m.index ∷ m.count ∷ tail (master_text m) =
    sym (c.byte-index.ensures.spelled ∙ ap (λ (l : List ℕ). c.byte-index.result ∷ l) c.byte-count.ensures.spelled) ∙ blocks.1 in
    let same_key : c.in_ok-key.key ≡ m.key = cc (key.0) in
    let index : c.byte-index.result ≡ m.index = cc (ends) in
    let count : c.byte-count.result ≡ m.count = cc (ends) in
    λ i. Some (record { identity = record { fresh = fresh.0 i; number = number.0 i }; key = same_key i; slice = slice.0 i; start = start.0 i; blocks = blocks.0 i; index = index i; count = count i })
