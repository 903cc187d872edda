use Rattle.std.proofs.Common.{refl}

pub returns : Rattle.pac_board_course.proofs.laws.courses_are_resumed.Goals.returns
returns g board script = refl
