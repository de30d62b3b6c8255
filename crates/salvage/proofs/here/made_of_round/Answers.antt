use Rattle.std.proofs.Common.{List, ℕ, Option, refl, sym, subst, string_bytes}
use Rattle.std.specs.Option.{option_map}
use Rattle.splices_flat.specs.FileSet.{bytes_of}
use Rattle.salvage.specs.declared.fault.SalvageFault.TheVariants.{Refused}
use Rattle.salvage.specs.Answered.{IsMadeOfSame, as_it_was, changed_since}
use Rattle.salvage.specs.Refused.{IsSalvageFault, IsUnmade}
use Rattle.salvage.specs.Others.{IsOther}
use Rattle.salvage.specs.Sight.{any_files, held_files_if}
use Rattle.salvage.proofs.Results.{if-ok}
use Rattle.salvage.proofs.Sights.{other-of-any, rescue-seen}
use Rattle.salvage.proofs.Refusals.{told-as, weaker-as, same-refused, other-refused, change-refused}
use Rattle.salvage.proofs.here.made_of_round.Goals as goal

pub returns-in-Ok-clause-made : goal.returns-in-Ok-clause-made
returns-in-Ok-clause-made g c =
    let round = c.args.round.now in
    let made = c.in_ok-made_of_same-in-Ok.field-0 in
    let same = subst (λ (r : Option (List ℕ)). IsMadeOfSame round.always_post (bytes_of c.args.files.now) c.args.top.now r round.journal.items
    (string_bytes made.text) made.done made.total (string_bytes made.warnings)) c.as_deref.ensures.value c.in_ok-made_of_same-in-Ok.ensures.made in (
      as_it_was (record {
        journal = round.journal.items;
        digest = round.digest;
        used = round.used;
        always_post = round.always_post;
        files = c.args.files.now;
        rescue = option_map (λ b. b.items) c.in-Ok.rescue;
        plan = same.plan;
        read = record {
          ended = round.ended;
          is_left = c.requires.left;
          are_same = c.in-Ok.ensures.files;
          is_same = c.in-Ok.ensures.same;
          planned = same.planned;
          salvaged = same.salvaged;
        };
        total_is = same.total_is;
        warnings_are = same.warnings_are;
      }),
      λ honest. record {
        none_written = c.requires.none honest;
        journal_is = c.requires.journal honest;
        listed_are = c.requires.inputs honest;
        read = c.requires.files honest;
        rescue_is = c.in-Ok.ensures.held honest;
      },
    )

pub returns-in_err-made_of_same-in-Ok-clause-refused : goal.returns-in_err-made_of_same-in-Ok-clause-refused
returns-in_err-made_of_same-in-Ok-clause-refused g c =
    let round = c.args.round.now in
    told-as (IsSalvageFault c.args.too (held_files_if (g.F.Folder.honest c.args.folder.now) (g.F.Folder.holds c.args.folder.now) (g.F.Folder.has c.args.folder.now) c.args.top.now) c.args.top.now) (Refused c.in_err-made_of_same-in-Ok.field-0.0)
    (same-refused c.args.too round.ended (held_files_if (g.F.Folder.honest c.args.folder.now) (g.F.Folder.holds c.args.folder.now) (g.F.Folder.has c.args.folder.now) c.args.top.now) c.args.top.now round.journal.items round.digest round.used round.next round.always_post c.args.inputs.now.files.items c.args.files.now
    c.requires.journal c.requires.left (record { listed_are = c.requires.inputs; files_are = c.requires.files })
    (option_map (λ b. b.items) c.in-Ok.rescue) c.in_err-made_of_same-in-Ok.field-0.0 c.in-Ok.ensures.files
    (rescue-seen (g.F.Folder.honest c.args.folder.now) (g.F.Folder.holds c.args.folder.now) (g.F.Folder.has c.args.folder.now) c.args.top.now round.used
    (option_map (λ b. b.items) c.in-Ok.rescue) c.in-Ok.ensures.held)
    c.in-Ok.ensures.same
    (subst (λ (r : Option (List ℕ)). IsUnmade round.always_post (bytes_of c.args.files.now) c.args.top.now round.used r round.journal.items c.in_err-made_of_same-in-Ok.field-0.0)
    c.as_deref.ensures.value c.in_err-made_of_same-in-Ok.ensures.refused))
    c.from_residual.result c.from_residual.ensures.1

pub returns-in-Err-own-clause-refused : goal.returns-in-Err-own-clause-refused
returns-in-Err-own-clause-refused g c =
    let round = c.args.round.now in
    subst (IsSalvageFault c.args.too (held_files_if (g.F.Folder.honest c.args.folder.now) (g.F.Folder.holds c.args.folder.now) (g.F.Folder.has c.args.folder.now) c.args.top.now) c.args.top.now) c.in-Err-own.ensures.other
    (other-refused c.args.too round.ended (held_files_if (g.F.Folder.honest c.args.folder.now) (g.F.Folder.holds c.args.folder.now) (g.F.Folder.has c.args.folder.now) c.args.top.now) c.args.top.now round.journal.items round.digest round.used round.next round.always_post c.args.inputs.now.files.items c.args.files.now
    c.requires.journal c.requires.left (record { listed_are = c.requires.inputs; files_are = c.requires.files })
    c.in-Err.other c.in-Err.ensures.refused)

pub returns-in-Ok-own-clause-refused : goal.returns-in-Ok-own-clause-refused
returns-in-Ok-own-clause-refused g c =
    let round = c.args.round.now in
    weaker-as (IsSalvageFault c.args.too (held_files_if (g.F.Folder.honest c.args.folder.now) (g.F.Folder.holds c.args.folder.now) (g.F.Folder.has c.args.folder.now) c.args.top.now) c.args.top.now) c.made_of_changed.result c.made_of_changed.ensures.refused
    (λ fault is. change-refused c.args.too round.ended (held_files_if (g.F.Folder.honest c.args.folder.now) (g.F.Folder.holds c.args.folder.now) (g.F.Folder.has c.args.folder.now) c.args.top.now) c.args.top.now round.journal.items round.digest round.used round.next round.always_post c.args.inputs.now.files.items c.args.files.now
    c.requires.journal c.requires.left (record { listed_are = c.requires.inputs; files_are = c.requires.files })
    c.in-Ok-own.change fault
    (subst (IsOther (held_files_if (g.F.Folder.honest c.args.folder.now) (g.F.Folder.holds c.args.folder.now) (g.F.Folder.has c.args.folder.now) c.args.top.now) c.args.inputs.now.files.items c.args.top.now round.used c.args.files.now) (sym c.in-Ok-own.ensures.own.0) c.in-Err.ensures.refused) is)

pub returns-in-Ok-own-clause-made : goal.returns-in-Ok-own-clause-made
returns-in-Ok-own-clause-made g c =
    let round = c.args.round.now in
    if-ok _ _ c.made_of_changed.result c.made_of_changed.ensures.made
    (λ made is. (
      changed_since (record {
        journal = round.journal.items;
        digest = round.digest;
        used = round.used;
        always_post = round.always_post;
        files = c.args.files.now;
        other = c.in-Ok-own.change;
        begun = is.begun;
        ended = round.ended;
        is_left = c.requires.left;
        is_other = subst (IsOther any_files c.args.inputs.now.files.items c.args.top.now round.used c.args.files.now) (sym c.in-Ok-own.ensures.own.0)
            (other-of-any (g.F.Folder.honest c.args.folder.now) (g.F.Folder.holds c.args.folder.now) (g.F.Folder.has c.args.folder.now) c.args.top.now
            c.args.inputs.now.files.items round.used c.args.files.now c.in-Err.other c.in-Err.ensures.refused);
        is_change = c.in-Ok-own.ensures.own.1;
        made = record {
          begun = is.begun;
          old = is.old;
          graph = is.graph;
          gone = is.gone;
          is_held = refl;
          is_begun = is.is_begun;
          is_graph = is.is_graph;
          carried = is.carried;
          total_is = is.total_is;
          warnings_are = is.warnings_are;
        };
      }),
      λ honest. record {
        none_written = c.requires.none honest;
        journal_is = c.requires.journal honest;
        listed_are = c.requires.inputs honest;
        begun_is = is.is_held honest;
        read = c.requires.files honest;
      },
    ))
