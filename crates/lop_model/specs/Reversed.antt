use Rattle.lop_model.specs.declared.pair.Pair.{Pair}

-- the pair the other way round
abbrev pub reversed : Pair → Pair
reversed p = record { before = p.after; after = p.before }
