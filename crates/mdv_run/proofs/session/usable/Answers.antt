use Rattle.std.proofs.Common.{rules, ◌≡◌, sym, ◌∙◌, ap, subst, [], ◌∷◌, map, string_bytes, ℕ, List, Contains}
use Rattle.std.specs.Bool.{IsTrue}
use Rattle.mdv_run.specs.Below.{Geometry}
use Rattle.mdv_name.proofs.OneTable.{one_table}
use Rattle.mdv_name.proofs.Sound.{sound_geometry}
use Rattle.mdv_home.specs.Drives.{sizes_of}
use Rattle.mdv_home.proofs.OneItem.{one_item}
use Rattle.mdv_run.proofs.Used.{start_with}
use Rattle.mdv_run.proofs.session.usable.Goals as goal

pub seen_by-requires : goal.seen_by-requires
seen_by-requires g c = sound_geometry c.args.table.now c.in_ok-table.table c.in_ok-table.ensures.value

pub returns-clause-value : goal.returns-clause-value
returns-clause-value g c =
    let words = ap (map string_bytes) (one_item c.args.words.now c.host-item.result c.in-len1.len_at_least c.in-len1.len_below c.host-item.is) in
    let host : c.in-Some.name ≡ string_bytes c.host-item.result = c.in-Some.ensures.value.1 ∙ c.as_bytes.ensures.value in
    start_with c.seen_by.result
    (record {
      host = words ∙ ap (λ (w : List ℕ). w ∷ []) (sym host);
      table = c.in_ok-table.ensures.value;
      one_of = subst (λ (hosts : List (List ℕ)). Contains hosts c.in-Some.name) c.as_slice.ensures c.in-Some.ensures.value.0;
      shelf = c.has_drives.ensures.0 (search rules);
    }) c.seen_by.ensures.value

pub returns-then-not-has_drives-clause-none : goal.returns-then-not-has_drives-clause-none
returns-then-not-has_drives-clause-none g c = λ is drives name used.
    let tables = one_table c.args.table.now drives c.in_ok-table.table used.table c.in_ok-table.ensures.value in
    absurd (cc (subst IsTrue c.if-not-has_drives.true (c.has_drives.ensures.1 (used.shelf ∙ ap sizes_of tables))))

pub returns-in_default-host_in-clause-none : goal.returns-in_default-host_in-clause-none
returns-in_default-host_in-clause-none g c = λ is drives name used.
    let words = ap (map string_bytes) (one_item c.args.words.now c.host-item.result c.in-len1.len_at_least c.in-len1.len_below c.host-item.is) in
    let hosts : name ∷ [] ≡ string_bytes c.host-item.result ∷ [] = sym used.host ∙ words in
    let host : name ≡ c.as_bytes.result.now = cc (hosts, c.as_bytes.ensures.value) in
    let tables = one_table c.args.table.now drives c.in_ok-table.table used.table c.in_ok-table.ensures.value in
    c.in_default-host_in.ensures.none
    (subst (λ (l : List (List ℕ)). Contains l c.as_bytes.result.now) (sym c.as_slice.ensures) (subst (Contains c.in_ok-table.table.hosts) host (subst (λ (t : Geometry). Contains t.hosts name) tables used.one_of)))
