pub use Rattle.dump_file.specs.Held
pub use Rattle.explain_text.specs.Written
pub use Rattle.commands.specs.Command
pub use Rattle.statuses.specs.ErrText
pub use Rattle.answers.specs.Answers
pub use Rattle.answers.specs.Due
pub mod Clauses
