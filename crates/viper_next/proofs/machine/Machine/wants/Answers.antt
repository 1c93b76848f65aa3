use Rattle.std.proofs.Common.{rules, ◌≡◌, None}
use Rattle.viper_word.specs.Machine.{wants, is_performed}
use Rattle.viper_next.proofs.AnswerLemmas.{answer_ignored}
use Rattle.viper_next.proofs.machine.Machine.wants.Goals as goal

pub returns-then-self-clause-unread : goal.returns-then-self-clause-unread
unfolding wants is_performed
returns-then-self-clause-unread c =
    let e : wants c.args.self.now.state ≡ None = search rules in
    answer_ignored c.args.self.now.profile c.args.self.now.state e

pub returns-then-not-legal-clause-unread : goal.returns-then-not-legal-clause-unread
unfolding wants is_performed
returns-then-not-legal-clause-unread c =
    let e : wants c.args.self.now.state ≡ None = search rules in
    answer_ignored c.args.self.now.profile c.args.self.now.state e
