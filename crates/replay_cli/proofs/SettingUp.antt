-- What a run asks for and leaves, by its settings and its trace.
use Rattle.std.proofs.Common.{◌≡◌, ℕ, ◌<◌, ◌++◌, true, false, List, [], ◌∷◌, length, map, Option, Some, None, Result, Ok, Err, IfSome, refl, sym, ap, ◌∙◌, inl, inr, append_assoc, arith}
use Rattle.std.specs.Prelude.{nat_lt, ◌⊎◌}
use Rattle.std.specs.Option.{option_map}
use Rattle.std.proofs.lemmas.List.{append-nil}
use Rattle.std.proofs.lemmas.Bool.{cond-true, cond-false}
use Rattle.std.proofs.lemmas.Bool.Decides.{nat_tests}
use Rattle.edit_base.specs.declared.bounds.TheConstants.Limits.{SETTINGS_BYTES}
use Rattle.trace_model.specs.declared.faults.SettingsFault.{SettingsFault}
use Rattle.trace_model.specs.declared.faults.SettingsFault.TheVariants as setting
use Rattle.trace_model.specs.Settings as plain
use Rattle.settings_reader.specs.declared.settings.Settings.{Settings}
use Rattle.settings_reader.specs.Seen.{as_settings}
use Rattle.trace_model.specs.Settings.{read_settings, read_document, toml_of}
use Rattle.trace_model.specs.declared.settings.WatcherSetting.{WatcherSetting}
use Rattle.edit_model.specs.Machine.{Setup}
use Rattle.edit_model.specs.Minds.{Mind}
use Rattle.trace_model.specs.Shelves.{loaded_shelf}
use Rattle.trace_model.specs.Output.{Played, finished, Prepared, prepared, setup}
use Rattle.replay_io.specs.declared.faults.ReadFault.TheVariants as fault
use Rattle.replay_io.specs.declared.whole_files.ReadEnd.TheVariants.{Whole, Over}
use Rattle.replay_io.specs.Outside.{Asked, begun_name, Gains, AsksOnce}
use Rattle.replay_cli.specs.declared.status.Status.{Status}
use Rattle.replay_cli.specs.declared.status.Status.TheVariants as status
use Rattle.replay_cli.specs.declared.requests.Task.{Task}
use Rattle.replay_cli.specs.Runs.{name_list, BeganSome, AskedNext, AsksFor, Requested, Told, untold, unset, set_up, gives, told_settings, told_by, told_of, told, LeavesTrace, Leaves, IsSet, IsComplete}
use Rattle.replay_cli.specs.SetUps.{SetsUp, settings_list, SetUpAsks, TraceAsks, Settles}
use Rattle.replay_cli.proofs.Known.{with_more-none}
use Rattle.replay_cli.proofs.LoadedShelves.{none-fits}

-- ---- a settings file

settings-long : (bytes : List ℕ) → SETTINGS_BYTES < length bytes → read_settings bytes ≡ Err setting.Limit
unfolding read_settings
settings-long bytes long = cond-true (nat_lt SETTINGS_BYTES (length bytes)) (Err setting.Limit) (read_document (toml_of bytes)) (grind (arith, nat_tests))

pub told-over : (told : Option (List ℕ)) (gained : List ℕ) (left : Option (List ℕ)) → Gains (Ok Over) told SETTINGS_BYTES gained left
    → IfSome (option_map read_settings told) (λ found. found ≡ Err setting.Limit)
told-over None gained left gains = tt
told-over (Some bytes) gained left gains = settings-long bytes (omega (arith, gains.1.1, gains.1.2))

pub told-whole : (answer : Result Settings Status) (told : Option (List ℕ)) (gained bytes : List ℕ) (left : Option (List ℕ))
    → Gains (Ok Whole) told SETTINGS_BYTES gained left
    → bytes ≡ gained → Settles answer (read_settings bytes) → SetsUp answer (option_map read_settings told)
told-whole (Ok it) None gained bytes left gains is settles = tt
told-whole (Ok it) (Some known) gained bytes left gains is settles = ap read_settings (sym (is ∙ gains.0)) ∙ settles
told-whole (Err (status.SettingsFault kind)) None gained bytes left gains is settles = tt
told-whole (Err (status.SettingsFault kind)) (Some known) gained bytes left gains is settles = ap read_settings (sym (is ∙ gains.0)) ∙ settles
told-whole (Err status.NoMemory) told gained bytes left gains is settles = tt
told-whole (Err answer) told gained bytes left gains is settles = absurd settles

pub asks-settled : (name : List ℕ) (answer : Result Settings Status) (found : Result plain.Settings SettingsFault) (old new : List Asked) → Settles answer found
    → new ≡ old ++ begun_name name ∷ [] → SetUpAsks (Some name) answer old new
asks-settled name (Ok it) found old new settles asks = asks
asks-settled name (Err (status.SettingsFault kind)) found old new settles asks = asks
asks-settled name (Err status.NoMemory) found old new settles asks = record { begun = name ∷ []; others = []; are = refl; is = asks }
asks-settled name (Err answer) found old new settles asks = absurd settles

pub asks-failed : (name : List ℕ) (old new : List Asked) → AsksOnce (Err fault.Failed) name old new → AskedNext (name ∷ []) old new
asks-failed name old new asks = record {
  begun = [];
  next = record { name = name; begun = asks.0 };
  others = [];
  are = refl;
  is = asks.1 ∙ ap (λ front. front ++ record { name = name; begun = asks.0 } ∷ []) (sym (append-nil old));
}

pub asks-wanting : (name : List ℕ) (old new : List Asked) → AsksOnce (Err fault.NoMemory) name old new → BeganSome (name ∷ []) old new
asks-wanting name old new (inl same) = record { begun = []; others = name ∷ []; are = refl; is = same ∙ sym (append-nil old) }
asks-wanting name old new (inr asks) = record { begun = name ∷ []; others = []; are = refl; is = asks }

pub asks-nothing : (old : List Asked) → BeganSome [] old old
asks-nothing old = record { begun = []; others = []; are = refl; is = sym (append-nil old) }

-- ---- the names of a run

names : (settings : Option (List ℕ)) (trace : List ℕ) → name_list settings trace ≡ settings_list settings ++ trace ∷ []
names None trace = refl
names (Some name) trace = refl

begun-names : (settings : Option (List ℕ)) (trace : List ℕ)
    → map begun_name (settings_list settings) ++ begun_name trace ∷ [] ≡ map begun_name (name_list settings trace)
begun-names None trace = refl
begun-names (Some name) trace = refl

both-begun : (settings : Option (List ℕ)) (trace : List ℕ) (old mid new : List Asked) → mid ≡ old ++ map begun_name (settings_list settings)
    → new ≡ mid ++ begun_name trace ∷ []
    → new ≡ old ++ map begun_name (name_list settings trace)
both-begun settings trace old mid new first second =
    second ∙ ap (λ front. front ++ begun_name trace ∷ []) first
    ∙ append_assoc old (map begun_name (settings_list settings)) (begun_name trace ∷ [])
    ∙ ap (λ more. old ++ more) (begun-names settings trace)

-- the settings were read, and then the trace was asked for
pub asks-both : (task : Task) (settings : Option (List ℕ)) (trace : List ℕ) (it : Settings) (answer : Status) (old mid new : List Asked)
    → SetUpAsks settings (Ok it) old mid → TraceAsks trace answer mid new
    → AsksFor (Some (record { task = task; settings = settings; trace = trace })) answer old new
asks-both task settings trace it status.Usage old mid new first second = second
asks-both task settings trace it (status.SettingsFault kind) old mid new first second = absurd second
asks-both task settings trace it status.ReadFault old mid new first second = record {
  begun = settings_list settings;
  next = record { name = trace; begun = second.0 };
  others = [];
  are = names settings trace;
  is = second.1 ∙ ap (λ front. front ++ record { name = trace; begun = second.0 } ∷ []) first;
}
asks-both task settings trace it status.NoMemory old mid new first (inl same) = record {
  begun = settings_list settings;
  others = trace ∷ [];
  are = names settings trace;
  is = same ∙ first;
}
asks-both task settings trace it status.NoMemory old mid new first (inr second) = record {
  begun = name_list settings trace;
  others = [];
  are = sym (append-nil (name_list settings trace));
  is = both-begun settings trace old mid new first second;
}
asks-both task settings trace it answer old mid new first second = both-begun settings trace old mid new first second

-- the run stopped at the settings
pub asks-stopped : (task : Task) (settings : Option (List ℕ)) (trace : List ℕ) (answer : Status) (old new : List Asked)
    → SetUpAsks settings (Err answer) old new
    → AsksFor (Some (record { task = task; settings = settings; trace = trace })) answer old new
asks-stopped task settings trace (status.SettingsFault kind) old new asks = asks
asks-stopped task settings trace status.ReadFault old new asks = record {
  begun = asks.begun;
  next = asks.next;
  others = asks.others ++ trace ∷ [];
  are = names settings trace ∙ ap (λ front. front ++ trace ∷ []) asks.are ∙ append_assoc asks.begun (asks.next.name ∷ asks.others) (trace ∷ []);
  is = asks.is;
}
asks-stopped task settings trace status.NoMemory old new asks = record {
  begun = asks.begun;
  others = asks.others ++ trace ∷ [];
  are = names settings trace ∙ ap (λ front. front ++ trace ∷ []) asks.are ∙ append_assoc asks.begun asks.others (trace ∷ []);
  is = asks.is;
}
asks-stopped task settings trace answer old new asks = absurd asks

-- ---- what a run is set to

-- where it is told, the minds of the shelf are these then, and it is set to this or has this fault
abbrev pub IsPrepared : Option Prepared → List Mind → Result Setup SettingsFault → Type 0
IsPrepared told minds found = IfSome told (λ it. (it.minds ≡ minds) × (it.found ≡ found))

module _ (told : Option (Result plain.Settings SettingsFault)) (it : Settings) (minds after : List Mind) (sets : SetsUp (Ok it) told)
    (kept : after ≡ (loaded_shelf it.watchers minds).minds) where
  -- the settings were read, and their watchers were loaded
  pub prepared-ok : (slots : List ℕ) → (loaded_shelf it.watchers minds).fits ≡ true → slots ≡ (loaded_shelf it.watchers minds).slots
      → IsPrepared (option_map (λ found. prepared found minds) told) after (Ok (setup (as_settings it) slots))
  prepared-ok slots fits taken = of told sets
    where
      of : (told : Option (Result plain.Settings SettingsFault)) → SetsUp (Ok it) told
          → IsPrepared (option_map (λ found. prepared found minds) told) after (Ok (setup (as_settings it) slots))
      of None sets = tt
      of (Some found) sets = (
        ap (λ f. (prepared f minds).minds) sets ∙ sym kept,
        ap (λ f. (prepared f minds).found) sets
            ∙ cond-true (loaded_shelf it.watchers minds).fits (Ok (setup (as_settings it) (loaded_shelf it.watchers minds).slots)) (Err setting.Watcher) fits
            ∙ ap (λ places. Ok (setup (as_settings it) places)) (sym taken),
      )

  -- the settings were read, and one of their watchers wasn't loaded
  pub prepared-err : (loaded_shelf it.watchers minds).fits ≡ false → IsPrepared (option_map (λ found. prepared found minds) told) after (Err setting.Watcher)
  prepared-err fails = of told sets
    where
      of : (told : Option (Result plain.Settings SettingsFault)) → SetsUp (Ok it) told
          → IsPrepared (option_map (λ found. prepared found minds) told) after (Err setting.Watcher)
      of None sets = tt
      of (Some found) sets = (
        ap (λ f. (prepared f minds).minds) sets ∙ sym kept,
        ap (λ f. (prepared f minds).found) sets
            ∙ cond-false (loaded_shelf it.watchers minds).fits (Ok (setup (as_settings it) (loaded_shelf it.watchers minds).slots)) (Err setting.Watcher) fails,
      )

-- the built-in settings ask for no watcher, so that only those of a file can fail to load
pub asks-unloaded : (task : Task) (settings : Option (List ℕ)) (stands : List ℕ → Option (List ℕ)) (trace : List ℕ) (it : Settings) (minds : List Mind)
    (kind : SettingsFault) (old new : List Asked) → SetsUp (Ok it) (told_settings settings stands) → (loaded_shelf it.watchers minds).fits ≡ false
    → SetUpAsks settings (Ok it) old new
    → AsksFor (Some (record { task = task; settings = settings; trace = trace })) (status.SettingsFault kind) old new
asks-unloaded task None stands trace it minds kind old new sets fails asks =
    let none : (loaded_shelf it.watchers minds).fits ≡ true =
    none-fits it.watchers minds (ap (λ f. watchers_asked f) (sym sets)) in
    absurd (cc)
  where
    watchers_asked : Result plain.Settings SettingsFault → List WatcherSetting
    watchers_asked (Ok settings) = settings.watchers
    watchers_asked (Err found) = []
asks-unloaded task (Some name) stands trace it minds kind old new sets fails asks = asks

-- only a file's settings have a fault
pub built_in-set : (asked : Option Requested) (answer : Status) (old new : List Asked) → AsksFor asked answer old new
    → IfSome asked (λ it. it.settings ≡ None → IsSet answer)
built_in-set None answer old new asks = tt
built_in-set (Some it) status.Usage old new asks = absurd asks
built_in-set (Some it) (status.SettingsFault kind) old new asks = λ none. rw none at asks
built_in-set (Some it) answer old new asks = λ none. tt

-- ---- what a run leaves

-- nothing was written yet
leaves-unread : (told : Told) (left known : Option (List ℕ)) (minds : List Mind) → Leaves told status.ReadFault left known known minds
leaves-unread untold left known minds = tt
leaves-unread (unset found kept) left known minds = refl
leaves-unread set_up left known minds = tt
leaves-unread (gives trace played) left known minds = refl

pub leaves-wanting : (told : Told) (left known : Option (List ℕ)) (minds : List Mind) → Leaves told status.NoMemory left known known minds
leaves-wanting untold left known minds = tt
leaves-wanting (unset found kept) left known minds = refl
leaves-wanting set_up left known minds = tt
leaves-wanting (gives trace played) left known minds = (tt, (0, with_more-none known))

-- there was no memory before anything was asked for
pub leaves-nothing : (told : Told) (left old new : Option (List ℕ)) → new ≡ old → (minds : List Mind) × Leaves told status.NoMemory left old new minds
leaves-nothing told left old new same = ([], rw same (leaves-wanting told left old []))

-- of a shelf with these minds some minds are left
pub leaves-some : (asked : Option Requested) (stands : List ℕ → Option (List ℕ)) (minds known : List Mind) (answer : Status)
    (left old new : Option (List ℕ)) (after : List Mind) → Leaves (told asked stands minds) answer left old new after → minds ≡ known
    → (some : List Mind) × Leaves (told asked stands known) answer left old new some
leaves-some asked stands minds known answer left old new after leaves same = (after, rw same at leaves)

-- what follows from completeness with a shelf of these minds
pub complete-of : (asked : Option Requested) (stands : List ℕ → Option (List ℕ)) (minds known : List Mind) (P : Type 0) → minds ≡ known
    → (IsComplete (told asked stands minds) → P) → IsComplete (told asked stands known) → P
complete-of asked stands minds known P same holds ready = holds (rw same ready)

-- the run stopped at the settings
pub leaves-stopped : (task : Task) (told : Option (Result plain.Settings SettingsFault)) (minds : List Mind) (trace : Option (List ℕ)) (answer : Status)
    (left known : Option (List ℕ))
    → SetsUp (Err answer) told → Leaves (told_of task (option_map (λ found. prepared found minds) told) trace) answer left known known minds
leaves-stopped task told minds trace status.ReadFault left known sets =
    leaves-unread (told_of task (option_map (λ found. prepared found minds) told) trace) left known minds
leaves-stopped task told minds trace status.NoMemory left known sets =
    leaves-wanting (told_of task (option_map (λ found. prepared found minds) told) trace) left known minds
leaves-stopped task None minds trace (status.SettingsFault kind) left known sets = tt
leaves-stopped task (Some (Err found)) minds trace (status.SettingsFault kind) left known sets = let e : kind ≡ found = cc in (e, refl, refl)
leaves-stopped task (Some (Ok it)) minds trace (status.SettingsFault kind) left known sets = absurd (cc)
leaves-stopped task told minds trace answer left known sets = absurd sets

module _ (task : Task) (minds : List Mind) (trace : Option (List ℕ)) where
  -- the run stopped at the shelf
  pub leaves-unloaded : (told : Option Prepared) (kind : SettingsFault) (left known : Option (List ℕ)) → kind ≡ setting.Watcher
      → IsPrepared told minds (Err setting.Watcher) → Leaves (told_of task told trace) (status.SettingsFault kind) left known known minds
  leaves-unloaded None kind left known is found = tt
  leaves-unloaded (Some it) kind left known is found = rw found.1 (is, refl, sym found.0)

  -- the watchers were loaded, and the trace was run or checked
  pub leaves-run : (r : Setup) (answer : Status) (told : Option Prepared) (left old new : Option (List ℕ)) (after : List Mind) → IsPrepared told minds (Ok r)
      → Leaves (told_by task minds (Ok r) trace) answer left old new after → Leaves (told_of task told trace) answer left old new after
  leaves-run r answer None left old new after found leaves = tt
  leaves-run r answer (Some it) left old new after found leaves = rw found.0 (rw found.1 leaves)

-- ---- completeness

complete-trace : (trace : List ℕ) (played : Played) (answer : Status) (left old new : Option (List ℕ)) (minds : List Mind)
    → played.ending ≡ finished → LeavesTrace trace played answer left old new minds
    → (answer ≡ status.ReadFault → ⊥) → (answer ≡ status.WriteFault → ⊥) → (answer ≡ status.Done) ⊎ (answer ≡ status.NoMemory)
complete-trace trace played status.Done left old new minds ends leaves unread unwritten = inl refl
complete-trace trace played status.NoMemory left old new minds ends leaves unread unwritten = inr refl
complete-trace trace played status.ReadFault left old new minds ends leaves unread unwritten = absurd (unread refl)
complete-trace trace played status.WriteFault left old new minds ends leaves unread unwritten = absurd (unwritten refl)
complete-trace trace played (status.TraceFault line kind) left old new minds ends leaves unread unwritten = let no = leaves.1.0 in absurd (cc)
complete-trace trace played status.TraceTooLong left old new minds ends leaves unread unwritten = let no = leaves.1.0 in absurd (cc)
complete-trace trace played answer left old new minds ends leaves unread unwritten = absurd leaves.1

pub complete : (told : Told) (answer : Status) (left old new : Option (List ℕ)) (minds : List Mind) → IsComplete told
    → Leaves told answer left old new minds → (answer ≡ status.ReadFault → ⊥) → (answer ≡ status.WriteFault → ⊥)
    → (answer ≡ status.Done) ⊎ (answer ≡ status.NoMemory)
complete (gives trace played) answer left old new minds ends leaves unread unwritten =
    complete-trace trace played answer left old new minds ends leaves unread unwritten
complete told answer left old new minds ends leaves unread unwritten = absurd ends
