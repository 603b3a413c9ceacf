use Rattle.std.proofs.Common.{rules, ◌≡◌, ◌-◌, ◌≤◌, leb, true, false, List, get_or, length, ap, sym, subst}
use Rattle.std.specs.List.Sorted.{IsNonDecreasingBy, IsPartitionPoint}
use Rattle.std.proofs.lemmas.List.Sorted.{IsPartitionPoint-from_clause, IsPartitionedBy-leb}
use Rattle.mdv_layout.specs.declared.row.LaidRow.{LaidRow}
use Rattle.mdv_layout.specs.Layouts.{no_row}
use Rattle.mdv_layout.proofs.Finding.{row_found, some_begun, starts_rise}
use Rattle.mdv_layout.proofs.layout.Layout.row_at.Goals as goal

pub overflow_sub-result : goal.overflow_sub-result
overflow_sub-result c =
    let layout = c.args.self.now in
    let rows = c.as_slice-rows.result.now in
    let at = c.args.at in
    let behind = c.partition_point-behind.result in
    let same : rows ≡ layout.rows.items = c.as_slice-rows.ensures.value in
    let rise : IsNonDecreasingBy (λ (r : LaidRow). r.start) rows = subst (IsNonDecreasingBy (λ (r : LaidRow). r.start)) (sym same) (starts_rise layout c.requires.well) in
    let point = IsPartitionPoint-from_clause (λ (r : LaidRow). leb r.start at) rows behind c.partition_point-behind.ensures.partitioned (IsPartitionedBy-leb (λ (r : LaidRow). r.start) rows at rise) (λ a r q k. search rules) in
    let found = subst (λ (rs : List LaidRow). IsPartitionPoint (λ (r : LaidRow). leb r.start at ≡ true) (λ (r : LaidRow). leb r.start at ≡ false) rs behind) same point in
    let few = subst (λ (rs : List LaidRow). behind ≤ length rs) same c.partition_point-behind.ensures.bound in
    some_begun layout c.requires.well at behind c.requires.within few found no_row

pub returns : goal.returns
returns c =
    let layout = c.args.self.now in
    let rows = c.as_slice-rows.result.now in
    let at = c.args.at in
    let behind = c.partition_point-behind.result in
    let same : rows ≡ layout.rows.items = c.as_slice-rows.ensures.value in
    let rise : IsNonDecreasingBy (λ (r : LaidRow). r.start) rows = subst (IsNonDecreasingBy (λ (r : LaidRow). r.start)) (sym same) (starts_rise layout c.requires.well) in
    let point = IsPartitionPoint-from_clause (λ (r : LaidRow). leb r.start at) rows behind c.partition_point-behind.ensures.partitioned (IsPartitionedBy-leb (λ (r : LaidRow). r.start) rows at rise) (λ a r q k. search rules) in
    let found = subst (λ (rs : List LaidRow). IsPartitionPoint (λ (r : LaidRow). leb r.start at ≡ true) (λ (r : LaidRow). leb r.start at ≡ false) rs behind) same point in
    let few = subst (λ (rs : List LaidRow). behind ≤ length rs) same c.partition_point-behind.ensures.bound in
    row_found layout c.requires.well at behind c.requires.within few found no_row (get_or rows (behind - 1) no_row) (ap (λ (rs : List LaidRow). get_or rs (behind - 1) no_row) same)
