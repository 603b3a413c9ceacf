use Rattle.std.proofs.Common.{Result, Ok, Err, refl, sym, subst, IsOk}
use Rattle.std.specs.Result.{MatchResult}
use Rattle.std.specs.Str.{IsUtf8}
use Rattle.mdv_base.proofs.Names.{text_from_name}
use Rattle.mdv_base.proofs.name.Name.as_str.Goals as goal

succeeds : {T E : Type 0} (r : Result T E) (P : T → Type 0) (Q : E → Type 0) → MatchResult r P Q → ((e : E) → Q e → ⊥) → IsOk r
succeeds (Ok x) P Q cases never = refl
succeeds (Err e) P Q cases never = absurd (never e cases)

pub unwrap-requires : goal.unwrap-requires
unwrap-requires c = succeeds c.from_utf8.result _ _ c.from_utf8.ensures.cases (λ e bad. bad.0 (subst IsUtf8 (sym c.as_bytes.ensures.value) (text_from_name _ c.as_bytes.ensures.form)))
