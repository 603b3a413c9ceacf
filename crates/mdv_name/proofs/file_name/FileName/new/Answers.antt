use Rattle.std.proofs.lemmas.Str.{IsUtf8-from_ascii}
use Rattle.mdv_name.proofs.file_name.FileName.new.Goals as goal

pub returns-in_default-clause-valid : goal.returns-in_default-clause-valid
returns-in_default-clause-valid c = (λ never. cc, λ form. absurd (c.in_default.ensures.cases.0 (IsUtf8-from_ascii c.args.text.now form.ascii)))
