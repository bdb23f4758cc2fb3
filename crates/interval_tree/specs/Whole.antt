-- All that an index keeps beside its rows.
use Rattle.std.specs.Prelude.{ℕ, ◌≤◌, ◌-◌, length, min}
use Rattle.id_slots.specs.Named.{AreNamed, Names}
use Rattle.row_kinds.specs.Kinds.{IsTally, places_of}
use Rattle.slot_lists.specs.Rising.{Rising}
use Rattle.span_order.specs.Blocks.{Row}
use Rattle.span_order.specs.Topped.{ToppedRow}
use Rattle.span_table.specs.Table.{Rows}
use Rattle.interval_tree.specs.Ids.{HaveDistinctIds, ids_of}
use Rattle.interval_tree.specs.Orders.{AreOrders}

pub record IsWhole (rows : Rows) (names : Names) (by_start : ToppedRow) (by_end : Row) (paragraphs : ℕ) (composing seats : Rising) : Type 0 where
  pub orders : AreOrders rows.starts rows.ends rows.slots by_start by_end
  pub named : AreNamed (ids_of rows.kept) rows.slots names
  pub distinct : HaveDistinctIds rows.kept
  pub tally : IsTally rows.kept rows.slots paragraphs composing.slots seats.slots
  pub composing_places : length rows.kept ≤ places_of composing
  pub seat_places : length rows.kept ≤ places_of seats

-- how many rows more than these have room in each of the lists
abbrev pub spare_of : Rows → Names → ToppedRow → Row → Rising → Rising → ℕ
spare_of rows names by_start by_end composing seats =
    min rows.spare (min names.spare (min by_start.spare (min by_end.spare
    (min (places_of composing - length rows.kept) (places_of seats - length rows.kept)))))
