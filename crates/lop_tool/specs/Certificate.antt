-- The certificate of a search, in a file of its own.
use Rattle.std.specs.Prelude.{◌≡◌, ℕ, ◌≤◌, List, [], Option, None, Some, IfSome, ⊤}
use Rattle.lop_tool.specs.Names.{World, NamedFile, with_finished, with_written, CoreFields, tree_size, Certificate}
use Rattle.lop_tool.specs.Names.{certificate_text, HasText, Two, IsTreeCertificate, IsCertificateOf}

-- a file without bytes is being made under this name, if one is given
abbrev pub HasBegun : Option (List ℕ) → Option World → Type 0
HasBegun None told = ⊤
HasBegun (Some name) told = IfSome told (λ w. w.made ≡ Some (record { name = name; bytes = [] }))

-- the certificate of a core: it is true of the core's weights, it has a text in version 2, and its tree has at least as
-- many nodes as were evaluated
pub record IsTrueCertificate (core : CoreFields) (certificate : Certificate) : Type 0 where
  pub of_core : IsCertificateOf core certificate
  pub holds : IsTreeCertificate core.problem.weights certificate
  pub has_text : HasText Two certificate
  pub enough : core.state.evaluated ≤ tree_size certificate.tree

-- the begun file was finished with the text, in version 2, of the core's certificate
pub record WritesCertificate (core : CoreFields) (old new : Option World) : Type 0 where
  pub certificate : Certificate
  pub true_of : IsTrueCertificate core certificate
  pub finished : new ≡ with_finished (with_written (certificate_text Two certificate) old)

-- the file is that of this name with the text, in version 2, of the core's certificate
pub record IsCertificateFile (name : List ℕ) (core : CoreFields) (left : Option NamedFile) : Type 0 where
  pub certificate : Certificate
  pub true_of : IsTrueCertificate core certificate
  pub file_is : left ≡ Some (record { name = name; bytes = certificate_text Two certificate })

-- the file that a core leaves under a name, if one is given
abbrev pub LeavesCertificate : Option (List ℕ) → CoreFields → Option NamedFile → Type 0
LeavesCertificate None core left = left ≡ None
LeavesCertificate (Some name) core left = IsCertificateFile name core left
