use Rattle.lop_lolib.specs.Words.{words_of}
use Rattle.lop_lolib.proofs.ObjectsLemmas.{AreFirstObjects}
use Rattle.lop_lolib.proofs.order.read_objects.Given as goal

abbrev pub invariant-loop-word : goal.invariant-loop-word
invariant-loop-word l = AreFirstObjects l.n (words_of l.bytes) (words_of l.word-iterator.rest.now) l.count l.objects.items
