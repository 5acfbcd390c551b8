-- At a fault fed from one end D and R are the amplitude of that end (OneEndLaws.antt has each).
use Rattle.measuring.specs.OneEnd.{OneEndAmplitude}
use Rattle.measuring.proofs.OneEndLaws.{d_is, r_is}

pub one_end_amplitude : OneEndAmplitude
unfolding OneEndAmplitude
one_end_amplitude v win l z fed = (d_is v.ends win l z fed, r_is v.ends win l z fed)
