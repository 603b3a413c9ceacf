use Rattle.std.proofs.Common.{◌≡◌, sym, ◌∙◌, ap}
use Rattle.std.specs.List.{list_any}
use Rattle.std.specs.Str.{bytes_eq}
use Rattle.std.specs.BTreeSet.{contains_text}
use Rattle.mdv_name.proofs.Texts.{Contains-from_any, any-from_Contains}
use Rattle.mdv_name.proofs.name_list.NameList.contains.Goals as goal

pub returns : goal.returns
returns c =
    let value : c.contains.result ≡ list_any (bytes_eq c.args.name.now) c.args.self.now =
    c.contains.ensures ∙ ap (contains_text c.self.inside.sorted) c.as_str.ensures.value ∙ c.self.invariant c.args.name.now ∙ ap (list_any (bytes_eq c.args.name.now)) c.self.view_is in
    (λ is. Contains-from_any c.args.name.now c.args.self.now (sym value ∙ is), λ found. value ∙ any-from_Contains c.args.name.now c.args.self.now found)
