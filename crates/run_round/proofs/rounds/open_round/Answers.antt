use Rattle.run_round.proofs.rounds.open_round.Goals as goal

pub returns-in-Begin-clause-refused : goal.returns-in-Begin-clause-refused
returns-in-Begin-clause-refused g c = rw (c.in-Begin.is) c.begin.ensures.refused

pub returns-in-GoOn-clause-refused : goal.returns-in-GoOn-clause-refused
returns-in-GoOn-clause-refused g c = rw (c.in-GoOn.is) c.recover.ensures.refused

pub returns-in-Begin-clause-anew : goal.returns-in-Begin-clause-anew
returns-in-Begin-clause-anew g c = rw (c.in-Begin.is) c.begin.ensures.past

pub returns-in-GoOn-clause-anew : goal.returns-in-GoOn-clause-anew
returns-in-GoOn-clause-anew g c = rw (c.in-GoOn.is) c.recover.ensures.life
