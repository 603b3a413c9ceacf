use Rattle.std.proofs.Common.{◌≡◌, Bool, true, false, sym, ◌∙◌, ap, List, None, Some, cond}
use Rattle.mdv_components.specs.Below.{Base}
use Rattle.mdv_components.specs.declared.cause.Cause.TheVariants.{TooSmall}
use Rattle.mdv_components.specs.Bases.{base_condition}
use Rattle.mdv_components.specs.Causes.{first_of, name_causes, use_causes}
use Rattle.mdv_components.specs.Stripes.{stripe_condition}
use Rattle.mdv_components.proofs.Causes.{by_name, by_form, by_use, by_room}
use Rattle.mdv_components.proofs.stripes.refuse_stripe.Goals as goal

pub returns-then-is_some : goal.returns-then-is_some
returns-then-is_some c =
    let holds = stripe_condition c.args.geometry.now c.args.drives.now c.args.plan.now c.args.volume c.args.rows.now c.args.spares in
    let name = c.name_cause-name.ensures ∙ ap (λ (bs : List Base). first_of (base_condition c.args.geometry.now c.args.drives.now c.args.plan.now c.args.volume bs c.args.spares) name_causes) (c.as_slice.ensures.value ∙ c.in_ok-bases.ensures) in
    by_name holds c.name_cause-name.result name (sym c.is_some.ensures ∙ c.if-is_some.true)

pub returns-then-is_some-2 : goal.returns-then-is_some-2
returns-then-is_some-2 c =
    let holds = stripe_condition c.args.geometry.now c.args.drives.now c.args.plan.now c.args.volume c.args.rows.now c.args.spares in
    let name = c.name_cause-name.ensures ∙ ap (λ (bs : List Base). first_of (base_condition c.args.geometry.now c.args.drives.now c.args.plan.now c.args.volume bs c.args.spares) name_causes) (c.as_slice.ensures.value ∙ c.in_ok-bases.ensures) in
    by_form holds c.name_cause-name.result c.form_cause-form.result name (sym c.is_some.ensures ∙ c.if-is_some.false) c.form_cause-form.ensures (sym c.is_some-2.ensures ∙ c.if-is_some-2.true)

pub returns-then-is_some-3 : goal.returns-then-is_some-3
returns-then-is_some-3 c =
    let holds = stripe_condition c.args.geometry.now c.args.drives.now c.args.plan.now c.args.volume c.args.rows.now c.args.spares in
    let name = c.name_cause-name.ensures ∙ ap (λ (bs : List Base). first_of (base_condition c.args.geometry.now c.args.drives.now c.args.plan.now c.args.volume bs c.args.spares) name_causes) (c.as_slice.ensures.value ∙ c.in_ok-bases.ensures) in
    let used = c.use_cause-used.ensures c.args.drives.now c.args.volume c.args.spares ∙ ap (λ (bs : List Base). first_of (base_condition c.args.geometry.now c.args.drives.now c.args.plan.now c.args.volume bs c.args.spares) use_causes) (c.as_slice-3.ensures.value ∙ c.in_ok-bases.ensures) in
    by_use holds c.name_cause-name.result c.form_cause-form.result c.use_cause-used.result name (sym c.is_some.ensures ∙ c.if-is_some.false) c.form_cause-form.ensures (sym c.is_some-2.ensures ∙ c.if-is_some-2.false) used (sym c.is_some-3.ensures ∙ c.if-is_some-3.true)

pub returns-then-has_small_row : goal.returns-then-has_small_row
returns-then-has_small_row c =
    let holds = stripe_condition c.args.geometry.now c.args.drives.now c.args.plan.now c.args.volume c.args.rows.now c.args.spares in
    let name = c.name_cause-name.ensures ∙ ap (λ (bs : List Base). first_of (base_condition c.args.geometry.now c.args.drives.now c.args.plan.now c.args.volume bs c.args.spares) name_causes) (c.as_slice.ensures.value ∙ c.in_ok-bases.ensures) in
    let used = c.use_cause-used.ensures c.args.drives.now c.args.volume c.args.spares ∙ ap (λ (bs : List Base). first_of (base_condition c.args.geometry.now c.args.drives.now c.args.plan.now c.args.volume bs c.args.spares) use_causes) (c.as_slice-3.ensures.value ∙ c.in_ok-bases.ensures) in
    let told = by_room holds c.name_cause-name.result c.form_cause-form.result c.use_cause-used.result name (sym c.is_some.ensures ∙ c.if-is_some.false) c.form_cause-form.ensures (sym c.is_some-2.ensures ∙ c.if-is_some-2.false) used (sym c.is_some-3.ensures ∙ c.if-is_some-3.false) in
    let small : true ≡ holds TooSmall = sym c.if-has_small_row.true ∙ c.has_small_row.ensures in
    ap (λ (b : Bool). cond b (Some TooSmall) None) small ∙ told

pub returns : goal.returns
returns c =
    let holds = stripe_condition c.args.geometry.now c.args.drives.now c.args.plan.now c.args.volume c.args.rows.now c.args.spares in
    let name = c.name_cause-name.ensures ∙ ap (λ (bs : List Base). first_of (base_condition c.args.geometry.now c.args.drives.now c.args.plan.now c.args.volume bs c.args.spares) name_causes) (c.as_slice.ensures.value ∙ c.in_ok-bases.ensures) in
    let used = c.use_cause-used.ensures c.args.drives.now c.args.volume c.args.spares ∙ ap (λ (bs : List Base). first_of (base_condition c.args.geometry.now c.args.drives.now c.args.plan.now c.args.volume bs c.args.spares) use_causes) (c.as_slice-3.ensures.value ∙ c.in_ok-bases.ensures) in
    let told = by_room holds c.name_cause-name.result c.form_cause-form.result c.use_cause-used.result name (sym c.is_some.ensures ∙ c.if-is_some.false) c.form_cause-form.ensures (sym c.is_some-2.ensures ∙ c.if-is_some-2.false) used (sym c.is_some-3.ensures ∙ c.if-is_some-3.false) in
    let small : false ≡ holds TooSmall = sym c.if-has_small_row.false ∙ c.has_small_row.ensures in
    ap (λ (b : Bool). cond b (Some TooSmall) None) small ∙ told
