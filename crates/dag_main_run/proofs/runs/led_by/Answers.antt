use Rattle.dag_main_run.proofs.Sites.{fits-disk, led-at, stopped-at}
use Rattle.dag_main_run.proofs.runs.led_by.Goals as goal

pub lead-requires : goal.lead-requires
lead-requires g c = record {
  fits = fits-disk g.H.Journal.Disk g.H.Rescue.Disk (g.H.Site.own c.args.site.now) (g.H.Folder.honest c.args.site.now) (g.H.Folder.holds c.args.site.now)
      c.args.top.now c.args.limits c.args.launcher.now c.args.plan.now c.args.round.now c.args.disks.0 c.args.disks.1
      (record { is_journal = c.requires.journal; is_rescue = c.requires.rescue; honest = c.requires.honest; found = c.requires.found; back = c.requires.back })
      c.requires.by_journal c.start_of-start.result c.start_of-start.ensures;
}

pub returns-in-Ok-clause-led : goal.returns-in-Ok-clause-led
returns-in-Ok-clause-led g c =
    led-at g.H.Journal.Disk g.H.Rescue.Disk (g.H.Site.own c.args.site.now) (g.H.Folder.honest c.args.site.now) (g.H.Folder.holds c.args.site.now)
    c.args.top.now c.args.limits c.args.launcher.now c.args.plan.now c.args.round.now c.args.disks.0 c.args.disks.1
    (record { is_journal = c.requires.journal; is_rescue = c.requires.rescue; honest = c.requires.honest; found = c.requires.found; back = c.requires.back })
    c.start_of-start.result c.start_of-start.ensures _ _ _ _ c.in-Ok.ensures.led

pub returns-in-Err-clause-refused : goal.returns-in-Err-clause-refused
returns-in-Err-clause-refused g c = λ fault returned.
    stopped-at g.H.Journal.Disk g.H.Rescue.Disk (g.H.Site.own c.args.site.now) (g.H.Folder.honest c.args.site.now) (g.H.Folder.holds c.args.site.now)
    c.args.top.now c.args.limits c.args.launcher.now c.args.plan.now c.args.round.now c.args.disks.0 c.args.disks.1
    (record { is_journal = c.requires.journal; is_rescue = c.requires.rescue; honest = c.requires.honest; found = c.requires.found; back = c.requires.back })
    c.start_of-start.result c.start_of-start.ensures _ _ _ fault returned c.in-Err.ensures.refused
