-- The words of the layers below, and of this crate's types, as its definitions and proofs name them.
pub use Rattle.lop_certtext.specs.Answer.{CheckAnswer, accepted, rejected, too_long, IsCheckAnswer}
pub use Rattle.lop_certtext.specs.Certificate.{Certificate, certificate_text, HasText, IsTreeCertificate, certificate_lines}
pub use Rattle.lop_certtext.specs.declared.version.CertVersion.TheVariants.{Two}
pub use Rattle.lop_certtext.specs.Tree.{tree_size, Tree, tree_lines}
pub use Rattle.lop_certwrite.specs.CoreTree.{IsCertificateOf, NodeTree, one_node, two_below, node_count, certificate_tree}
pub use Rattle.lop_climb.specs.Insertion.{IsClimbedFrom}
pub use Rattle.lop_climb.specs.StartOrder.{IsBeckerOrder}
pub use Rattle.lop_core.specs.Core.{CoreFields, HasHistory, prepared}
pub use Rattle.lop_core.specs.Machine.{state_bound, Problem, SearchState}
pub use Rattle.lop_core.specs.Outcome.{IsOutcome, IsFinished}
pub use Rattle.lop_desk.specs.Causes.{Rose}
pub use Rattle.lop_desk.specs.Desk.{IsMissing, IsThere}
pub use Rattle.lop_desk.specs.World.{World, NamedFile, with_finished, with_written, file_named, unread, put_file, with_opened}
pub use Rattle.lop_desk.specs.World.{with_made, with_printed}
pub use Rattle.lop_leaf.specs.Packing.{packing_bound}
pub use Rattle.lop_lolib.specs.declared.order.OrderRefusal.{OrderRefusal}
pub use Rattle.lop_lolib.specs.declared.refusal.LolibRefusal.{LolibRefusal}
pub use Rattle.lop_model.specs.Matrix.{Matrix, IsUpperBound, IsWeights, weight}
pub use Rattle.lop_model.specs.Order.{IsOrder}
pub use Rattle.lop_preflib.specs.declared.refusal.PrefRefusal.{PrefRefusal}
pub use Rattle.lop_profile.specs.declared.profile.ProfileFault.{ProfileFault}
pub use Rattle.lop_report.specs.AnswerText.{accepted_text, gen_text, solve_text, value_text}
pub use Rattle.lop_report.specs.Lines.{is_optimal}
pub use Rattle.lop_words.specs.declared.command.Command.{Command}
pub use Rattle.lop_words.specs.declared.command.Command.TheVariants.{Solve, Check, Value, Gen}
pub use Rattle.lop_words.specs.declared.command.Format.{Format}
pub use Rattle.lop_tool.specs.declared.checking.Outcome.{Outcome}
pub use Rattle.lop_tool.specs.declared.checking.Outcome.TheVariants.{Accepted, Rejected}
pub use Rattle.lop_tool.specs.declared.generation.Generation.{Generation}
pub use Rattle.lop_tool.specs.declared.input.Instance.{Instance}
pub use Rattle.lop_tool.specs.declared.refusal.InputRefusal.{InputRefusal}
pub use Rattle.lop_tool.specs.declared.refusal.InputRefusal.TheVariants.{TooLong, Lolib, Preflib, Profile}
pub use Rattle.lop_tool.specs.declared.refusal.OrderFileRefusal.{OrderFileRefusal}
pub use Rattle.lop_tool.specs.declared.refusal.Refusal.{Refusal}
pub use Rattle.lop_tool.specs.declared.refusal.Refusal.TheVariants.{LongCertificate, Input, Order}
pub use Rattle.lop_tool.specs.declared.rejection.Rejection.{Rejection}
pub use Rattle.lop_tool.specs.declared.solve.Solution.{Solution}
pub use Rattle.lop_tool.specs.declared.status.Status.{Status}
pub use Rattle.lop_tool.specs.declared.stop.Stop.{Stop}
pub use Rattle.lop_tool.specs.declared.weighing.Valuation.{Valuation}
