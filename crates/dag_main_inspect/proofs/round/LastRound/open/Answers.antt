use Rattle.std.specs.Option.{option_map}
use Rattle.dag_main_files.specs.Opened.{changing, fixed}
use Rattle.dag_main_inspect.proofs.Rounds.{not-opened-so}
use Rattle.dag_main_inspect.proofs.round.LastRound.open.Goals as goal

pub returns-in-Err-clause-refused : goal.returns-in-Err-clause-refused
returns-in-Err-clause-refused g c = λ last.
    not-opened-so changing c.args.top.now c.args.self.journal (option_map (λ b. b.items) c.args.self.rescue) _ c.as_deref.ensures.value last
    c.args.self.name c.requires.name c.in-Err.fault _ c.in-Err.ensures.refused c.named.ensures

pub returns-in-Err-clause-refused_held : goal.returns-in-Err-clause-refused_held
returns-in-Err-clause-refused_held g c = λ honest last.
    not-opened-so (fixed (g.F.Folder.holds c.args.folder.now)) c.args.top.now c.args.self.journal (option_map (λ b. b.items) c.args.self.rescue) _ c.as_deref.ensures.value last
    c.args.self.name c.requires.name c.in-Err.fault _ (c.in-Err.ensures.refused_held honest) c.named.ensures
