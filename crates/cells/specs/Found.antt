-- What the calls hand out of a byte's place and of a row's part of a range.
use Rattle.std.specs.Prelude.{ℕ, ◌%◌}
use Rattle.dealing.specs.Places.{cell_of, row_of, shard_of, shard_place, part_start, part_len}
use Rattle.cells.specs.declared.places.Location.{Location}
use Rattle.cells.specs.declared.rows.RowRange.{RowRange}

abbrev pub location_of : ℕ → ℕ → ℕ → Location
location_of d s b = record {
  cell = cell_of s b;
  row = row_of d (cell_of s b);
  shard = shard_of d (cell_of s b);
  offset_in_shard = shard_place d s b;
  offset_in_cell = b % s;
}

abbrev pub range_of : ℕ → ℕ → ℕ → ℕ → RowRange
range_of w k a l = record { start = part_start w k a l; len = part_len w k a l }
