-- The spare rows of an index are those of each list that it keeps.
use Rattle.std.proofs.Common.{ℕ, ◌≤◌, ◌-◌, length, min, arith}
use Rattle.id_slots.specs.Named.{Names}
use Rattle.row_kinds.specs.Kinds.{places_of}
use Rattle.slot_lists.specs.Rising.{Rising}
use Rattle.span_order.specs.Blocks.{Row}
use Rattle.span_order.specs.Topped.{ToppedRow}
use Rattle.span_table.specs.Table.{Rows}
use Rattle.interval_tree.specs.Whole.{spare_of}

-- each of the lists has room for so many rows more
pub record HasRoom (n : ℕ) (rows : Rows) (names : Names) (by_start : ToppedRow) (by_end : Row) (composing seats : Rising) : Type 0 where
  pub kept : n ≤ rows.spare
  pub named : n ≤ names.spare
  pub starting : n ≤ by_start.spare
  pub ending : n ≤ by_end.spare
  pub composed : n ≤ places_of composing - length rows.kept
  pub seated : n ≤ places_of seats - length rows.kept

both : (n a b : ℕ) → n ≤ a → n ≤ b → n ≤ min a b
both n a b first second = omega arith

left : (n a b : ℕ) → n ≤ min a b → n ≤ a
left n a b is = omega arith

right : (n a b : ℕ) → n ≤ min a b → n ≤ b
right n a b is = omega arith

module _ (n : ℕ) (rows : Rows) (names : Names) (by_start : ToppedRow) (by_end : Row) (composing seats : Rising) where
  pub room_each : n ≤ spare_of rows names by_start by_end composing seats → HasRoom n rows names by_start by_end composing seats
  room_each is =
      let rest = right n rows.spare _ is in
      let more = right n names.spare _ rest in
      let orders = right n by_start.spare _ more in
      let lists = right n by_end.spare _ orders in
      record {
        kept = left n rows.spare _ is;
        named = left n names.spare _ rest;
        starting = left n by_start.spare _ more;
        ending = left n by_end.spare _ orders;
        composed = left n (places_of composing - length rows.kept) _ lists;
        seated = right n (places_of composing - length rows.kept) _ lists;
      }

  pub room_all : HasRoom n rows names by_start by_end composing seats → n ≤ spare_of rows names by_start by_end composing seats
  room_all is =
      both n rows.spare _ is.kept (both n names.spare _ is.named (both n by_start.spare _ is.starting (both n by_end.spare _ is.ending
      (both n (places_of composing - length rows.kept) _ is.composed is.seated))))
