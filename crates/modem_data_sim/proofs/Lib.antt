mod SimLaws
