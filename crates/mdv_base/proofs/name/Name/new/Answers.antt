use Rattle.std.proofs.Common.{length, drop, replicate, ◌++◌, List, ℕ, sym, ◌∙◌, subst, arith}
use Rattle.mdv_base.specs.Name.{IsStored, stored_made}
use Rattle.mdv_base.proofs.name.Name.new.Goals as goal

pub invariant_of-result : goal.invariant_of-result
invariant_of-result c =
    subst (λ (l : List ℕ). IsStored (l ++ drop (length c.args.text.now) (replicate 32 0)) (length c.args.text.now)) (sym c.copy_from_slice.ensures.after) (
    stored_made c.args.text.now (
    record {
      short = omega arith;
      first = sym c.begins_with_letter.ensures ∙ c.if-not-begins_with_letter.false;
      each = sym c.has_name_bytes.ensures ∙ c.if-not-has_name_bytes.false;
    }
    )
    )
