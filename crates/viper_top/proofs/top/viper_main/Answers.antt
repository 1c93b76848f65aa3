use Rattle.viper_top.specs.Orders.{Check, Certify, Run, Upgrade, Assemble, Disasm, Sample}
use Rattle.viper_top.proofs.RunHeadline.{worked, followed}
use Rattle.viper_top.proofs.CertifyHeadline.{certified, uncertified}
use Rattle.viper_top.proofs.SampleHeadline.{sampled, unsampled}
use Rattle.viper_top.proofs.UpgradeHeadline.{made_again, unrefused}
use Rattle.viper_top.proofs.TextHeadlines.{made_image, listed_image}
use Rattle.viper_top.proofs.Apart.{of_order, ends_by, usage_by, complete_by}
use Rattle.viper_top.proofs.Headlines.{verified, declined, ends_as}
use Rattle.viper_top.proofs.top.viper_main.Goals as goal

pub returns-clause-check_done : goal.returns-clause-check_done
returns-clause-check_done g c = λ image plan cert order done.
    verified image plan cert _ _ _ _ (rw done at (of_order _ (Check image plan cert) _ order (c.answer_words.ensures.answered (rw done tt))))

pub returns-clause-check_refused : goal.returns-clause-check_refused
returns-clause-check_refused g c = λ image plan cert order refused.
    declined image plan cert _ _ _ _ (rw refused at (of_order _ (Check image plan cert) _ order (c.answer_words.ensures.answered (rw refused tt))))

pub returns-clause-check_complete : goal.returns-clause-check_complete
returns-clause-check_complete g c = λ image plan cert lines certificate order given nothing enough.
    ends_as image plan cert _ _ lines certificate _ _ _ given
    (complete_by _ (Check image plan cert) c.answer_words.result _ _ _ _ (λ usage. (c.answer_words.ensures.usage usage).0) c.answer_words.ensures.answered c.answer_words.ensures.outside order given.told nothing enough)

pub returns-clause-certify_done : goal.returns-clause-certify_done
returns-clause-certify_done g c = λ image plan cert order done.
    certified image plan cert _ _ _ _ (rw done at (of_order _ (Certify image plan cert) _ order (c.answer_words.ensures.answered (rw done tt))))

pub returns-clause-certify_refused : goal.returns-clause-certify_refused
returns-clause-certify_refused g c = λ image plan cert order refused.
    uncertified image plan cert _ _ _ _ (rw refused at (of_order _ (Certify image plan cert) _ order (c.answer_words.ensures.answered (rw refused tt))))

pub returns-clause-sample_done : goal.returns-clause-sample_done
returns-clause-sample_done g c = λ loops order done.
    sampled loops _ _ _ _ (rw done at (of_order _ (Sample loops) _ order (c.answer_words.ensures.answered (rw done tt))))

pub returns-clause-sample_refused : goal.returns-clause-sample_refused
returns-clause-sample_refused g c = λ loops order refused.
    unsampled loops _ _ _ _ (rw refused at (of_order _ (Sample loops) _ order (c.answer_words.ensures.answered (rw refused tt))))

pub returns-clause-run_ends : goal.returns-clause-run_ends
returns-clause-run_ends g c = λ image plan script steps order ends.
    let w = worked c.answer_words.result ends in
    followed image plan script steps _ _ c.answer_words.result _ _ w.1 (of_order _ (Run image plan script steps) _ order (c.answer_words.ensures.answered w.0))

pub returns-clause-upgrade_done : goal.returns-clause-upgrade_done
returns-clause-upgrade_done g c = λ image plan cert new order done.
    made_again image plan cert new _ _ _ _ (rw done at (of_order _ (Upgrade image plan cert new) _ order (c.answer_words.ensures.answered (rw done tt))))

pub returns-clause-upgrade_unrefused : goal.returns-clause-upgrade_unrefused
returns-clause-upgrade_unrefused g c = λ image plan cert new order refused.
    unrefused image plan cert new _ _ _ _ (rw refused at (of_order _ (Upgrade image plan cert new) _ order (c.answer_words.ensures.answered (rw refused tt))))

pub returns-clause-assemble_done : goal.returns-clause-assemble_done
returns-clause-assemble_done g c = λ source image order done.
    made_image source image _ _ _ _ (rw done at (of_order _ (Assemble source image) _ order (c.answer_words.ensures.answered (rw done tt))))

pub returns-clause-disasm_done : goal.returns-clause-disasm_done
returns-clause-disasm_done g c = λ image order done.
    listed_image image _ _ _ _ (rw done at (of_order _ (Disasm image) _ order (c.answer_words.ensures.answered (rw done tt))))

pub returns-clause-usage_where : goal.returns-clause-usage_where
returns-clause-usage_where g c = usage_by _ c.answer_words.result _ _ _ _ c.answer_words.ensures.answered c.answer_words.ensures.outside

pub returns-clause-ends : goal.returns-clause-ends
returns-clause-ends g c = ends_by _ c.answer_words.result _ _ _ _ (λ usage. (c.answer_words.ensures.usage usage).0) c.answer_words.ensures.outside

pub returns-clause-complete : goal.returns-clause-complete
returns-clause-complete g c = λ order.
    complete_by _ order c.answer_words.result _ _ _ _ (λ usage. (c.answer_words.ensures.usage usage).0) c.answer_words.ensures.answered c.answer_words.ensures.outside
