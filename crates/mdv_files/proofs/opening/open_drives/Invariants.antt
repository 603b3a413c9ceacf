use Rattle.std.proofs.Common.{◌≡◌, vec_len, map, string_bytes, take}
use Rattle.mdv_files.specs.Bench.{sizes_of, sizes_in}
use Rattle.mdv_files.specs.Opening.{HaveOwnFiles, foreign_in, foreign_of, lost_count}
use Rattle.mdv_files.proofs.opening.open_drives.Given as goal

abbrev pub invariant-loop-line : goal.invariant-loop-line
invariant-loop-line l = record {
  few : vec_len l.images ≡ l.line-index;
  sizes : sizes_of l.images.items ≡ sizes_in (take l.line-index l.geometry.drives);
  own : HaveOwnFiles l.images.items;
  lost : vec_len l.lost ≡ lost_count l.images.items;
  foreign : foreign_of l.images.items ≡ foreign_in (map string_bytes l.words) (take l.line-index l.geometry.drives);
}
