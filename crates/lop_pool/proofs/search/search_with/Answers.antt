use Rattle.lop_pool.proofs.search.search_with.Goals as goal

pub run-requires-clause-fits : goal.run-requires-clause-fits
run-requires-clause-fits g c κs within = c.start_anew.ensures.fits c.args.weights.now.size c.requires.fits
