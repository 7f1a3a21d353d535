use Rattle.scope_world.proofs.frame.member_named.Goals as goal

pub returns-in-Field : goal.returns-in-Field
returns-in-Field g c = λ d. rw c.in-Field.is (c.member.ensures d)
