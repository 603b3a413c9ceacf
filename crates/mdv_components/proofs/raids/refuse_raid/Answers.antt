use Rattle.std.proofs.Common.{◌≡◌, Bool, true, false, sym, ◌∙◌, ap, List, None, Some, cond, arith}
use Rattle.std.proofs.lemmas.Bool.Decides.{nat_tests}
use Rattle.mdv_components.specs.Below.{Base}
use Rattle.mdv_components.specs.declared.cause.Cause.TheVariants.{TooSmall}
use Rattle.mdv_components.specs.Bases.{base_condition}
use Rattle.mdv_components.specs.Causes.{first_of, name_causes, use_causes}
use Rattle.mdv_components.specs.Raids.{form_cause, raid_condition}
use Rattle.mdv_components.proofs.Causes.{by_name, by_form, by_use, by_room, form_holds, is_none}
use Rattle.mdv_components.proofs.raids.refuse_raid.Goals as goal

pub units_of-requires-clause-interlace : goal.units_of-requires-clause-interlace
units_of-requires-clause-interlace c =
    let none = is_none c.form_cause-form.result (sym c.is_some-2.ensures ∙ c.if-is_some-2.false) in
    (form_holds (form_cause c.args.raid.now) (sym c.form_cause-form.ensures ∙ none)).interlace

pub returns-then-is_some : goal.returns-then-is_some
returns-then-is_some c =
    let holds = raid_condition c.args.geometry.now c.args.drives.now c.args.plan.now c.args.volume c.args.raid.now in
    let name = c.name_cause-name.ensures ∙ ap (λ (bs : List Base). first_of (base_condition c.args.geometry.now c.args.drives.now c.args.plan.now c.args.volume bs c.args.raid.now.spares) name_causes) c.as_slice-bases.ensures.value in
    by_name holds c.name_cause-name.result name (sym c.is_some.ensures ∙ c.if-is_some.true)

pub returns-then-is_some-2 : goal.returns-then-is_some-2
returns-then-is_some-2 c =
    let holds = raid_condition c.args.geometry.now c.args.drives.now c.args.plan.now c.args.volume c.args.raid.now in
    let name = c.name_cause-name.ensures ∙ ap (λ (bs : List Base). first_of (base_condition c.args.geometry.now c.args.drives.now c.args.plan.now c.args.volume bs c.args.raid.now.spares) name_causes) c.as_slice-bases.ensures.value in
    by_form holds c.name_cause-name.result c.form_cause-form.result name (sym c.is_some.ensures ∙ c.if-is_some.false) c.form_cause-form.ensures (sym c.is_some-2.ensures ∙ c.if-is_some-2.true)

pub returns-then-is_some-3 : goal.returns-then-is_some-3
returns-then-is_some-3 c =
    let holds = raid_condition c.args.geometry.now c.args.drives.now c.args.plan.now c.args.volume c.args.raid.now in
    let name = c.name_cause-name.ensures ∙ ap (λ (bs : List Base). first_of (base_condition c.args.geometry.now c.args.drives.now c.args.plan.now c.args.volume bs c.args.raid.now.spares) name_causes) c.as_slice-bases.ensures.value in
    let used = c.use_cause-used.ensures c.args.drives.now c.args.volume c.args.raid.now.spares ∙ ap (λ (bs : List Base). first_of (base_condition c.args.geometry.now c.args.drives.now c.args.plan.now c.args.volume bs c.args.raid.now.spares) use_causes) c.as_slice-bases.ensures.value in
    by_use holds c.name_cause-name.result c.form_cause-form.result c.use_cause-used.result name (sym c.is_some.ensures ∙ c.if-is_some.false) c.form_cause-form.ensures (sym c.is_some-2.ensures ∙ c.if-is_some-2.false) used (sym c.is_some-3.ensures ∙ c.if-is_some-3.true)

pub returns-then-units_of-eq0 : goal.returns-then-units_of-eq0
returns-then-units_of-eq0 c =
    let holds = raid_condition c.args.geometry.now c.args.drives.now c.args.plan.now c.args.volume c.args.raid.now in
    let name = c.name_cause-name.ensures ∙ ap (λ (bs : List Base). first_of (base_condition c.args.geometry.now c.args.drives.now c.args.plan.now c.args.volume bs c.args.raid.now.spares) name_causes) c.as_slice-bases.ensures.value in
    let used = c.use_cause-used.ensures c.args.drives.now c.args.volume c.args.raid.now.spares ∙ ap (λ (bs : List Base). first_of (base_condition c.args.geometry.now c.args.drives.now c.args.plan.now c.args.volume bs c.args.raid.now.spares) use_causes) c.as_slice-bases.ensures.value in
    let told = by_room holds c.name_cause-name.result c.form_cause-form.result c.use_cause-used.result name (sym c.is_some.ensures ∙ c.if-is_some.false) c.form_cause-form.ensures (sym c.is_some-2.ensures ∙ c.if-is_some-2.false) used (sym c.is_some-3.ensures ∙ c.if-is_some-3.false) in
    let small : holds TooSmall ≡ true = grind (arith, nat_tests, c.units_of.ensures.value) in
    ap (λ (b : Bool). cond b (Some TooSmall) None) (sym small) ∙ told

pub returns : goal.returns
returns c =
    let holds = raid_condition c.args.geometry.now c.args.drives.now c.args.plan.now c.args.volume c.args.raid.now in
    let name = c.name_cause-name.ensures ∙ ap (λ (bs : List Base). first_of (base_condition c.args.geometry.now c.args.drives.now c.args.plan.now c.args.volume bs c.args.raid.now.spares) name_causes) c.as_slice-bases.ensures.value in
    let used = c.use_cause-used.ensures c.args.drives.now c.args.volume c.args.raid.now.spares ∙ ap (λ (bs : List Base). first_of (base_condition c.args.geometry.now c.args.drives.now c.args.plan.now c.args.volume bs c.args.raid.now.spares) use_causes) c.as_slice-bases.ensures.value in
    let told = by_room holds c.name_cause-name.result c.form_cause-form.result c.use_cause-used.result name (sym c.is_some.ensures ∙ c.if-is_some.false) c.form_cause-form.ensures (sym c.is_some-2.ensures ∙ c.if-is_some-2.false) used (sym c.is_some-3.ensures ∙ c.if-is_some-3.false) in
    let small : holds TooSmall ≡ false = grind (arith, nat_tests, c.units_of.ensures.value) in
    ap (λ (b : Bool). cond b (Some TooSmall) None) (sym small) ∙ told
